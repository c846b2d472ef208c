use Rattle.std.proofs.Common.{◌≡◌, ◌∙◌, ◌++◌, true, false, sym, ap}
use Rattle.pb_semantics.specs.Keeps.{is_among}
use Rattle.pb_vars.specs.InScope.{in_scope}
use Rattle.pb_reads.specs.Reached.{names_in, own_names}
use Rattle.pb_reads.specs.RootsView.{roots_view}
use Rattle.pb_reads.proofs.Gathered.{names-put, value-left, value-put}
use Rattle.pb_rules.proofs.NameSets.{set-finds}
use Rattle.pb_reads.proofs.names.put_value.Goals as goal

pub returns-clause-roots : goal.returns-clause-roots
returns-clause-roots c =
    let n = c.args.name.now in
    let out : is_among n (names_in c.args.own.now) ≡ false = sym (set-finds n c.args.own.now.keys) ∙ sym c.contains.ensures ∙ c.if-contains.false in
    value-left (in_scope c.args.scope.now) n (roots_view c.args.all.now.items) (sym (c.requires.same n) ∙ out)

pub returns-then-contains-clause-roots : goal.returns-then-contains-clause-roots
returns-then-contains-clause-roots c =
    let n = c.args.name.now in
    let old = roots_view c.args.all.now.items in
    let in-it : is_among n (names_in c.args.own.now) ≡ true = sym (set-finds n c.args.own.now.keys) ∙ sym c.contains.ensures ∙ c.if-contains.true in
    value-put (in_scope c.args.scope.now) n old (roots_view c.in_ok-found.found.items) (roots_view c.put_behind.new.all.items) (sym (c.requires.same n) ∙ in-it)
    (c.in_ok-put_behind.ensures.roots ∙ ap (λ xs. old ++ roots_view xs) c.as_slice.ensures.value) c.in_ok-found.ensures

pub returns-then-contains-clause-names : goal.returns-then-contains-clause-names
returns-then-contains-clause-names c n =
    names-put n (names_in c.args.own.now) (names_in c.put_behind.new.own) (roots_view c.args.all.now.items) (roots_view c.as_slice.result.now) (roots_view c.put_behind.new.all.items) (c.in_ok-put_behind.ensures.names n) (c.requires.same n)
    c.in_ok-put_behind.ensures.roots
