use Rattle.std.proofs.Common.{◌≡◌, ap, ◌∙◌}
use Rattle.pb_semantics.specs.Kind.{recs}
use Rattle.pb_kind.proofs.KindLemmas.{kind_view-Host}
use Rattle.pb_kind.proofs.Views.{kind_view-Rec}
use Rattle.pb_kind.proofs.same.+same.Goals as goal

pub are_same_slots-loop-name-init : goal.are_same_slots-loop-name-init
are_same_slots-loop-name-init t c =
    let all : c.iter-left.result ≡ c.args.others.now.entries = c.iter-left.ensures.rest in
    let items : c.into_iter-name-iterator.result ≡ c.args.slots.now.entries = c.into_iter-name-iterator.ensures.into_iter_gives ∙ c.iter-name-items.ensures.rest in
    λ e. rw (all, items) at e

pub is_same-returns-in-Host-Host : goal.is_same-returns-in-Host-Host
is_same-returns-in-Host-Host t c = λ h.
    let p = c.in-Host-Host in
    rw (p.is-0, p.is-1, kind_view-Host p.names, kind_view-Host p.others) (rw (c.deref.ensures, c.deref-in-Host-Host.ensures) at c.are_same_hosts.ensures h)

pub is_same-returns-then-is : goal.is_same-returns-then-is
is_same-returns-then-is t c = λ h.
    let p = c.in-Rec-Rec in
    rw (p.is-0, p.is-1, kind_view-Rec p.slots, kind_view-Rec p.others) (ap recs (rw (c.deref-then-is-2.ensures, c.deref-then-is.ensures, c.deref-then-is-4.ensures, c.deref-then-is-3.ensures) at c.are_same_slots.ensures h))
