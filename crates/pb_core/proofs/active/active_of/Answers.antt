use Rattle.std.proofs.Common.{◌<◌, ◌+◌, ◌∷◌, ◌∙◌, [], All, get_or, length, take, sym, ap, subst, take_all}
use Rattle.std.proofs.lemmas.List.Elements.{All-append}
use Rattle.pb_core.specs.Entries.{AreHere, IsHere}
use Rattle.pb_core.proofs.Runs.{all_one}
use Rattle.pb_core.proofs.Turnings.{here_more, here_less}
use Rattle.pb_core.proofs.active.active_of.Goals.{then-is_here+in_ok-push, else-is_here}
use Rattle.pb_core.proofs.active.active_of.Goals as goal

pub loop-host-preserved : goal.loop-host-preserved
loop-host-preserved g c =
    let xs = c.args.hosts.now in
    let ms = c.args.members.now in
    let i = c.loop-host.host-index in
    let ns = c.loop-host.active.items in
    let m = get_or ms i 0 in
    elim c.if-is_here.branch [
      | then-is_here+in_ok-push w ↦
          let made = ap (λ v. v.items) w.active-is ∙ w.in_ok-push.ensures.items in record {
            here = here_more xs ms ns i c.loop-host.invariant.here c.loop-host-test.true c.if-is_here.active.items (subst (IsHere xs m) w.if-is_here.true c.is_here.ensures.here) made;
            within = subst (All (λ k. k < length xs)) (sym made) (All-append (λ k. k < length xs) ns (m ∷ []) c.loop-host.invariant.within (all_one (λ k. k < length xs) m (c.is_here.ensures.within w.if-is_here.true)));
          }
      | else-is_here w ↦
          let made = ap (λ v. v.items) w.active-is in record {
            here = subst (AreHere xs (take (i + 1) ms)) (sym made) (here_less xs ms ns i c.loop-host.invariant.here c.loop-host-test.true (subst (IsHere xs m) w.if-is_here.false c.is_here.ensures.here));
            within = subst (All (λ k. k < length xs)) (sym made) c.loop-host.invariant.within;
          }
    ]

pub returns-clause-active : goal.returns-clause-active
returns-clause-active g c =
    subst (λ ms. AreHere c.args.hosts.now ms c.loop-host.active.items) (take_all c.loop-host.host-index c.args.members.now c.loop-host-test.false) c.loop-host.invariant.here
