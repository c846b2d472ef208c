-- What the layers of a kind mean.
use Rattle.std.proofs.Common.{◌≡◌, ℕ, Vec, BTreeMap, String, Global, rules}
use Rattle.std.specs.declared.sync.Arc.{Arc}
use Rattle.pb_semantics.specs.Kind.{recs, lists, results}
use Rattle.pb_value.specs.declared.weight.Weighed.{Weighed}
use Rattle.pb_kind.specs.KindView.{kind_view, slots_view, cases_view}
use Rattle.pb_kind.specs.declared.kind.Case.{Case}
use Rattle.pb_kind.specs.declared.kind.Slot.{Slot}
use Rattle.pb_kind.specs.declared.kind.Kind.{Kind}
use Rattle.pb_kind.specs.declared.kind.Kind as Kind-of
use Rattle.pb_kind.specs.declared.kind.Kind.{the_lemmas as kind_lemmas}

pub kind_view-List : (k : Arc (Weighed Kind) Global) (n : ℕ) → kind_view (Kind-of.List k n) ≡ lists (kind_view k.value.parts) n
kind_view-List k n = search (rules, kind_lemmas)

pub kind_view-Rec : (m : Arc (Weighed (BTreeMap (String Global) (Slot Kind))) Global) → kind_view (Kind-of.Rec m) ≡ recs (slots_view m.value.parts.entries)
kind_view-Rec m = search (rules, kind_lemmas)

pub kind_view-Result : (cs : Arc (Weighed (Vec (Case Kind) Global)) Global) (r : Arc Kind Global) → kind_view (Kind-of.Result cs r) ≡ results (cases_view cs.value.parts.items) (kind_view r.value)
kind_view-Result cs r = search (rules, kind_lemmas)
