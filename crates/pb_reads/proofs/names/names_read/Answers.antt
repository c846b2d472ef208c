use Rattle.std.proofs.Common.{◌≡◌, ◌∙◌, sym, ap, subst}
use Rattle.std.proofs.lemmas.Result.{IfOk-weaker}
use Rattle.pb_semantics.specs.Keeps.{is_among}
use Rattle.pb_vars.specs.Borrowed.{borrowed_view}
use Rattle.pb_vars.specs.InScope.{in_scope}
use Rattle.pb_reads.specs.Reached.{reached, told_names}
use Rattle.pb_reads.specs.RootsView.{roots_view}
use Rattle.pb_reads.proofs.Reached.{told-is-read}
use Rattle.pb_reads.proofs.Whole.{AreWritten, read-is-told, written}
use Rattle.pb_reads.proofs.names.names_read.Goals as goal

pub returns-clause-sound : goal.returns-clause-sound
returns-clause-sound c =
    let scope = in_scope c.args.scope.now in
    let rs = roots_view c.args.roots.now in
    let ps = borrowed_view c.as_slice.result.now in
    let all : roots_view c.as_slice-2.result.now ≡ reached scope ps rs = ap roots_view c.as_slice-2.ensures.value ∙ c.in_ok-all.ensures in
    IfOk-weaker c.names_told.result _ _ (λ ns told n h. told-is-read scope ps rs n (ap (λ xs. is_among n (told_names scope xs)) (sym all) ∙ sym (told n) ∙ h)) c.names_told.ensures

pub returns-clause-whole : goal.returns-clause-whole
returns-clause-whole c =
    let scope = in_scope c.args.scope.now in
    let rs = roots_view c.args.roots.now in
    let ps = borrowed_view c.in_ok-order.order.items in
    let all : roots_view c.as_slice-2.result.now ≡ reached scope ps rs =
    ap roots_view c.as_slice-2.ensures.value ∙ c.in_ok-all.ensures ∙ ap (λ es. reached scope (borrowed_view es) rs) c.as_slice.ensures.value in
    IfOk-weaker c.names_told.result _ _
    (λ ns told short n x. told n ∙ ap (λ xs. is_among n (told_names scope xs)) all
    ∙ read-is-told scope ps rs n (subst AreWritten all (written c.as_slice-2.result.now)) (c.all_are_in_order.ensures scope ps short c.in_ok-order.ensures.behind c.in_ok-order.ensures.short) x)
    c.names_told.ensures
