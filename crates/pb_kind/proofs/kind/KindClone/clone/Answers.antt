use Rattle.pb_value.specs.declared.weight.Weighed.{Weighed}
use Rattle.std.proofs.Common.{BTreeMap, BTreeSet, Vec, String, Global, map, string_bytes, sym, ap, ap₂, ◌∙◌}
use Rattle.pb_semantics.specs.Kind.{hosts, lists, recs, results}
use Rattle.pb_kind.specs.KindView.{kind_view, slots_view, cases_view}
use Rattle.pb_kind.specs.declared.kind.Case.{Case}
use Rattle.pb_kind.specs.declared.kind.Slot.{Slot}
use Rattle.pb_kind.specs.declared.kind.Kind.{Kind}
use Rattle.pb_kind.proofs.KindLemmas.{kind_view-Host}
use Rattle.pb_kind.proofs.Views.{kind_view-List, kind_view-Rec, kind_view-Result}
use Rattle.pb_kind.proofs.kind.KindClone.clone.Goals as goal

pub returns-in-Never : goal.returns-in-Never
returns-in-Never c = record { cases = ap kind_view (sym c.in-Never.is) }

pub returns-in-Null : goal.returns-in-Null
returns-in-Null c = record { cases = ap kind_view (sym c.in-Null.is) }

pub returns-in-Bool : goal.returns-in-Bool
returns-in-Bool c = record { cases = ap kind_view (sym c.in-Bool.is) }

pub returns-in-Int : goal.returns-in-Int
returns-in-Int c = record { cases = ap kind_view (sym c.in-Int.is) }

pub returns-in-Text : goal.returns-in-Text
returns-in-Text c = record { cases = ap kind_view (sym c.in-Text.is) }

pub returns-in-Any : goal.returns-in-Any
returns-in-Any c = record { cases = ap kind_view (sym c.in-Any.is) }

pub returns-in_ok-clone-in-Host : goal.returns-in_ok-clone-in-Host
returns-in_ok-clone-in-Host c =
    let copied = ap (λ (s : BTreeSet (String Global)). hosts (map (λ n. string_bytes n) s.keys)) c.in_ok-clone-in-Host.ensures.cases in
    record { cases = kind_view-Host c.in_ok-clone-in-Host.field-0 ∙ copied ∙ sym (ap kind_view c.in-Host.is ∙ kind_view-Host c.in-Host.names) }

pub returns-in_ok-clone-in-List : goal.returns-in_ok-clone-in-List
returns-in_ok-clone-in-List c =
    let copied = ap (λ (k : Weighed Kind). lists (kind_view k.parts) c.in-List.most) c.in_ok-clone-in-List.ensures.cases in
    record { cases = kind_view-List c.in_ok-clone-in-List.field-0 c.in-List.most ∙ copied ∙ sym (ap kind_view c.in-List.is ∙ kind_view-List c.in-List.item c.in-List.most) }

pub returns-in_ok-clone-in-Rec : goal.returns-in_ok-clone-in-Rec
returns-in_ok-clone-in-Rec c =
    let copied = ap (λ (m : Weighed (BTreeMap (String Global) (Slot Kind))). recs (slots_view m.parts.entries)) c.in_ok-clone-in-Rec.ensures.cases in
    record { cases = kind_view-Rec c.in_ok-clone-in-Rec.field-0 ∙ copied ∙ sym (ap kind_view c.in-Rec.is ∙ kind_view-Rec c.in-Rec.slots) }

pub returns-in_ok-clone-in-Result-2 : goal.returns-in_ok-clone-in-Result-2
returns-in_ok-clone-in-Result-2 c =
    let copied = ap₂ (λ (cs : Weighed (Vec (Case Kind) Global)) (k : Kind). results (cases_view cs.parts.items) (kind_view k)) c.in_ok-clone-in-Result.ensures.cases c.in_ok-clone-in-Result-2.ensures.cases in
    record { cases = kind_view-Result c.in_ok-clone-in-Result.field-0 c.in_ok-clone-in-Result-2.field-0 ∙ copied ∙ sym (ap kind_view c.in-Result.is ∙ kind_view-Result c.in-Result.cases c.in-Result.record) }
