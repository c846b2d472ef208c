use Rattle.std.proofs.Common.{map, String, Global, string_bytes, sym, ap, ◌∙◌}
use Rattle.pb_semantics.specs.Kind.{recs}
use Rattle.pb_kind.specs.KindView.{kind_view}
use Rattle.pb_semantics.specs.Grown.{marked}
use Rattle.pb_kind.proofs.Views.{kind_view-Rec}
use Rattle.pb_kind.proofs.GrowLemmas.{growing_view-Rec}
use Rattle.pb_kind.proofs.grow.opened.Goals as goal

pub returns-in_ok-kinds-in-Rec : goal.returns-in_ok-kinds-in-Rec
returns-in_ok-kinds-in-Rec c =
    let p = c.in-Rec in
    let kinds = c.in_ok-kinds-in-Rec.kinds in
    let certain = c.in_ok-certain-in-Rec.certain in
    let names = map (λ (n : String Global). string_bytes n) certain.keys in
    let own = rw (c.deref-in-Rec-2.ensures, c.deref-in-Rec.ensures) at c.in_ok-certain-in-Rec.ensures in
    let all = rw (c.deref-in-Rec-4.ensures, c.deref-in-Rec-3.ensures) at c.in_ok-kinds-in-Rec.ensures in
    growing_view-Rec kinds certain ∙ ap (λ ss. recs (marked ss names)) all ∙ ap recs own
    ∙ sym (ap kind_view p.is ∙ kind_view-Rec p.slots)
