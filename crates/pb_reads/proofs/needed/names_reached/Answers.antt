use Rattle.std.proofs.Common.{[], ◌≡◌, ◌∙◌, Bool, true, is_some, sym, ap, subst}
use Rattle.std.proofs.Math.Path.{fun_ext}
use Rattle.std.proofs.lemmas.Result.{IfOk-weaker}
use Rattle.pb_semantics.specs.Keeps.{is_among}
use Rattle.pb_language.specs.Expansion.{part_named, trees}
use Rattle.pb_language.specs.Expression.{Name}
use Rattle.pb_language.specs.Rules.{part_names}
use Rattle.pb_language.specs.Theorem.{are_distinct}
use Rattle.pb_syntax.specs.Aliases.{trees_in}
use Rattle.pb_vars.specs.Borrowed.{borrowed_view}
use Rattle.pb_vars.specs.InScope.{in_scope}
use Rattle.pb_vars.proofs.Scopes.{short-chains}
use Rattle.pb_reads.specs.Needed.{AreSameAt, parts_among}
use Rattle.pb_reads.specs.Reached.{names_in, own_names, reached}
use Rattle.pb_reads.specs.RootsView.{roots_view}
use Rattle.pb_reads.proofs.Enough.{kept-is-reached, same-at}
use Rattle.pb_reads.proofs.Once.{needed-once}
use Rattle.pb_reads.proofs.Whole.{AreWritten, closed-all, kept, written}
use Rattle.pb_reads.proofs.needed.names_reached.Goals as goal

pub returns-clause-enough : goal.returns-clause-enough
returns-clause-enough c =
    let scope = in_scope c.args.scope.now in
    let rs = roots_view c.args.roots.now in
    let ps = borrowed_view c.in_ok-order.order.items in
    let all = reached scope ps rs in
    let has : Name → Bool = λ n. is_among n (own_names all) in
    let found : roots_view c.as_slice-2.result.now ≡ all =
    ap roots_view c.as_slice-2.ensures.value ∙ c.in_ok-all.ensures ∙ ap (λ es. reached scope (borrowed_view es) rs) c.as_slice.ensures.value in
    let names : (n : Name) → is_among n (names_in c.in_ok-names.names) ≡ has n = λ n. c.in_ok-names.ensures n ∙ ap (λ xs. is_among n (own_names xs)) found in
    IfOk-weaker c.entries_among.result _ _
    (λ es h short.
    let order = c.all_are_in_order.ensures scope ps short c.in_ok-order.ensures.behind c.in_ok-order.ensures.short in
    let same : borrowed_view es.items ≡ parts_among has ps =
    h ∙ ap (λ f. parts_among f (borrowed_view c.as_slice-3.result.now)) (fun_ext names) ∙ ap (λ xs. parts_among has (borrowed_view xs)) c.as_slice-3.ensures.value in
    subst (λ qs. AreSameAt rs (trees_in qs) (trees scope)) (sym same)
    (same-at scope (trees scope) (c.trees_are_whole.ensures scope short) all (subst AreWritten found (written c.as_slice-2.result.now)) (closed-all scope [] ps order rs) ps order rs (λ r x. kept scope ps rs r x)))
    c.entries_among.ensures

pub returns-clause-needed : goal.returns-clause-needed
returns-clause-needed c =
    let scope = in_scope c.args.scope.now in
    let rs = roots_view c.args.roots.now in
    let ps = borrowed_view c.in_ok-order.order.items in
    let all = reached scope ps rs in
    let has : Name → Bool = λ n. is_among n (own_names all) in
    let found : roots_view c.as_slice-2.result.now ≡ all =
    ap roots_view c.as_slice-2.ensures.value ∙ c.in_ok-all.ensures ∙ ap (λ es. reached scope (borrowed_view es) rs) c.as_slice.ensures.value in
    let names : (n : Name) → is_among n (names_in c.in_ok-names.names) ≡ has n = λ n. c.in_ok-names.ensures n ∙ ap (λ xs. is_among n (own_names xs)) found in
    IfOk-weaker c.entries_among.result _ _
    (λ es h n there. kept-is-reached scope ps (borrowed_view c.as_slice-3.result.now) rs n
    (ap (λ f. is_among n (part_names (parts_among f (borrowed_view c.as_slice-3.result.now)))) (sym (fun_ext names)) ∙ ap (λ qs. is_among n (part_names qs)) (sym h) ∙ there))
    c.entries_among.ensures

pub returns-clause-once : goal.returns-clause-once
returns-clause-once c =
    let scope = in_scope c.args.scope.now in
    let order = c.in_ok-order.order.items in
    let asked : Name → Bool = λ n. is_among n (names_in c.in_ok-names.names) in
    let same : borrowed_view c.as_slice-3.result.now ≡ borrowed_view order = ap borrowed_view c.as_slice-3.ensures.value in
    IfOk-weaker c.entries_among.result _ _
    (λ es h short.
    let all : (n : Name) → is_some (part_named n scope) ≡ true → is_some (part_named n (borrowed_view order)) ≡ true = λ n i. c.in_ok-order.ensures.short n i (short-chains scope short n) in
    subst (λ ps. are_distinct (part_names ps) ≡ true) (sym (h ∙ ap (parts_among asked) same))
    (needed-once scope order asked c.args.scope.now.ordered c.in_ok-order.ensures.behind all c.in_ok-order.ensures.once))
    c.entries_among.ensures
