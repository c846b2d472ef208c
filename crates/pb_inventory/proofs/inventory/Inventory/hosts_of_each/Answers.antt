use Rattle.std.proofs.Common.{◌≡◌, ◌∙◌, ◌+◌, [], List, ap, drop, length, map, string_bytes, subst, sym, Vec, Global, ℕ, Some}
use Rattle.std.specs.Vec.{with_items}
use Rattle.std.proofs.lemmas.List.{with_items_is}
use Rattle.pb_semantics.specs.Gives.{FaultGives}
use Rattle.pb_language.specs.BookForm.{words_from}
use Rattle.pb_language.specs.World.{HostVariables}
use Rattle.pb_inventory.specs.Documents.{names_view}
use Rattle.pb_inventory.specs.Families.{IsMarked}
use Rattle.pb_inventory.specs.Inventory.{inventory_view}
use Rattle.pb_inventory.specs.Patterns.{names_at, no_hosts, patterns_words}
use Rattle.pb_inventory.proofs.PatternHosts.{fault-more, found-more, passed-fault, pattern-left}
use Rattle.pb_inventory.proofs.inventory.Inventory.hosts_of_each.Goals as goal

pub returns-in_err-add_words-clause-given : goal.returns-in_err-add_words-clause-given
returns-in_err-add_words-clause-given c =
    let l = c.loop-pattern in
    let v = inventory_view c.args.self.now in
    let names = map (λ (h : HostVariables). h.name) v.hosts in
    let ps = c.args.patterns.now in
    let i = l.pattern-index in
    let text = c.as_str.result.now in
    let rest = patterns_words (names_view (drop (i + 1) ps)) in
    let left = pattern-left v (names_at names l.places.items) _ ps i c.pattern-item.result text c.loop-pattern-test.true c.pattern-item.is (c.as_str.ensures.value ∙ ap (λ s. string_bytes s) c.deref.ensures) l.invariant.left in
    let f = c.in_err-add_words.field-0.0 in
    passed-fault (λ (hs : Vec ℕ Global). Some (names_at names hs.items)) _ f _ c.from_residual-in_err-add_words.ensures.1
    (subst (FaultGives (no_hosts f)) left (fault-more v f (names_at names l.places.items) (words_from [] text) rest c.in_err-add_words.ensures.given))

pub loop-pattern-preserved : goal.loop-pattern-preserved
loop-pattern-preserved c =
    let l = c.loop-pattern in
    let v = inventory_view c.args.self.now in
    let names = map (λ (h : HostVariables). h.name) v.hosts in
    let ps = c.args.patterns.now in
    let i = l.pattern-index in
    let text = c.as_str.result.now in
    let rest = patterns_words (names_view (drop (i + 1) ps)) in
    let left = pattern-left v (names_at names l.places.items) _ ps i c.pattern-item.result text c.loop-pattern-test.true c.pattern-item.is (c.as_str.ensures.value ∙ ap (λ s. string_bytes s) c.deref.ensures) l.invariant.left in
    let ws = c.add_words.new.seen in
    let marked : length ws ≡ l.seen.len = c.add_words.auto.seen ∙ c.as_mut_slice.ensures.len in
    let kept : (with_items l.seen ws).items ≡ ws = with_items_is l.seen ws marked in
    record {
      left = sym (found-more v (names_at names l.places.items) (names_at names c.add_words.new.places.items) (words_from [] text) rest c.in_ok-add_words.ensures.given) ∙ left;
      count = ap length kept ∙ marked ∙ l.seen.ok.0 ∙ l.invariant.count;
      marks = subst (λ (ss : List ℕ). IsMarked c.add_words.new.places.items ss 0) (sym kept) c.in_ok-add_words.ensures.marks;
    }
