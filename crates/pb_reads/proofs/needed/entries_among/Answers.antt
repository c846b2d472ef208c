use Rattle.std.proofs.Common.{◌≡◌, ◌∙◌, ◌+◌, Bool, true, false, drop, sym, ap, string_bytes}
use Rattle.std.proofs.lemmas.List.{drop_all}
use Rattle.pb_semantics.specs.Keeps.{is_among}
use Rattle.pb_language.specs.Expression.{Name}
use Rattle.pb_language.specs.Plays.{append_parts}
use Rattle.pb_vars.specs.Borrowed.{borrowed_view, entry_name}
use Rattle.pb_reads.specs.Needed.{parts_among}
use Rattle.pb_reads.specs.Reached.{names_in}
use Rattle.pb_rules.proofs.NameSets.{set-finds}
use Rattle.pb_reads.proofs.Enough.{entries-done, entry-kept, entry-passed}
use Rattle.pb_reads.proofs.needed.entries_among.Goals as goal
use Rattle.pb_reads.proofs.needed.entries_among.Goals.{then-contains+in_ok-push, else-contains}

pub loop-entry-preserved : goal.loop-entry-preserved
loop-entry-preserved c =
    let l = c.loop-entry in
    let es = c.args.entries.now in
    let e = c.entry-item.result in
    let f : Name → Bool = λ n. is_among n (names_in c.args.names.now) in
    let all = parts_among f (borrowed_view es) in
    let named : c.as_str.result.now ≡ entry_name e = c.as_str.ensures.value ∙ ap string_bytes c.deref.ensures in
    let told : f (entry_name e) ≡ c.contains.result = ap f (sym named) ∙ sym (set-finds c.as_str.result.now c.args.names.now.keys) ∙ sym c.contains.ensures in
    elim c.if-contains.branch [
      | then-contains+in_ok-push w ↦ entry-kept f all l.found.items es l.entry-index e c.loop-entry-test.true c.entry-item.is c.if-contains.found.items
          (ap (λ v. v.items) w.found-is ∙ w.in_ok-push.ensures.items) (told ∙ w.if-contains.true) l.invariant
      | else-contains w ↦ entry-passed f all l.found.items es l.entry-index e c.loop-entry-test.true c.entry-item.is (told ∙ w.if-contains.false) l.invariant
          ∙ ap (λ v. append_parts (borrowed_view v.items) (parts_among f (borrowed_view (drop (l.entry-index + 1) es)))) (sym w.found-is)
    ]

pub returns : goal.returns
returns c =
    let l = c.loop-entry in
    let es = c.args.entries.now in
    let f : Name → Bool = λ n. is_among n (names_in c.args.names.now) in
    entries-done f (parts_among f (borrowed_view es)) l.found.items es l.entry-index (drop_all l.entry-index es c.loop-entry-test.false) l.invariant
