use Rattle.std.proofs.Common.{◌≡◌, ◌≤◌, ◌<◌, length, nat_le, true, false, refl, sym, ap, ◌∙◌, arith, rules}
use Rattle.pb_kind.specs.declared.kind.Kind.{the_lemmas as kind_lemmas}
use Rattle.pb_value.specs.declared.value.Value.{the_lemmas as value_lemmas}
use Rattle.std.proofs.lemmas.Bool.Decides.{nat_tests}
use Rattle.pb_semantics.specs.Keeps.{slots_kept}
use Rattle.pb_kind.specs.KindView.{kind_view, slots_view}
use Rattle.pb_value.specs.View.{fields_view}
use Rattle.pb_kind.proofs.Views.{kind_view-List, kind_view-Rec, kind_view-Result}
use Rattle.pb_value.proofs.Views.{view-Null, view-Bool, view-Int, view-List, view-Rec, view-Text}
use Rattle.pb_kind.proofs.KindLemmas.{kind_view-Any, kind_view-Null, kind_view-Bool, kind_view-Int, kind_view-Text, kind_view-Host}
use Rattle.pb_kind.proofs.KeptLists.{keeps-short, keeps-long}
use Rattle.pb_kind.proofs.keeps.+has.Goals as goal

pub has-returns-in-Any-default : goal.has-returns-in-Any-default
has-returns-in-Any-default t c = rw (c.in-Any-default.is-0, kind_view-Any) refl

pub has-returns-in-Null-Null : goal.has-returns-in-Null-Null
has-returns-in-Null-Null t c = rw (c.in-Null-Null.is-0, c.in-Null-Null.is-1, view-Null, kind_view-Null) refl

pub has-returns-in-Bool-Bool : goal.has-returns-in-Bool-Bool
has-returns-in-Bool-Bool t c = rw (c.in-Bool-Bool.is-0, c.in-Bool-Bool.is-1, view-Bool, kind_view-Bool) refl

pub has-returns-in-Int-Int : goal.has-returns-in-Int-Int
has-returns-in-Int-Int t c = rw (c.in-Int-Int.is-0, c.in-Int-Int.is-1, view-Int, kind_view-Int) refl

pub has-returns-in-Host-Text : goal.has-returns-in-Host-Text
has-returns-in-Host-Text t c =
    let p = c.in-Host-Text in
    c.has_name.ensures ∙ rw (p.is-0, p.is-1, view-Text, kind_view-Host, c.as_str.ensures.value, c.deref.ensures, c.deref-in-Host-Text.ensures) refl

pub has-returns-in_default : goal.has-returns-in_default
has-returns-in_default t c = search (rules, kind_lemmas, value_lemmas)

pub has-returns-in_default-2 : goal.has-returns-in_default-2
has-returns-in_default-2 t c = search (rules, kind_lemmas, value_lemmas)

pub has-returns-in_default-3 : goal.has-returns-in_default-3
has-returns-in_default-3 t c = search (rules, kind_lemmas, value_lemmas)

pub has-returns-in_default-4 : goal.has-returns-in_default-4
has-returns-in_default-4 t c = search (rules, kind_lemmas, value_lemmas)

pub has-returns-in_default-5 : goal.has-returns-in_default-5
has-returns-in_default-5 t c = search (rules, kind_lemmas, value_lemmas)

pub has-returns-in_default-6 : goal.has-returns-in_default-6
has-returns-in_default-6 t c = search (rules, kind_lemmas, value_lemmas)

pub has-returns-in_default-7 : goal.has-returns-in_default-7
has-returns-in_default-7 t c = search (rules, kind_lemmas, value_lemmas)

pub has-returns-in_default-8 : goal.has-returns-in_default-8
has-returns-in_default-8 t c = search (rules, kind_lemmas, value_lemmas)

pub has-returns-in-Text-Text : goal.has-returns-in-Text-Text
has-returns-in-Text-Text t c = rw (c.in-Text-Text.is-0, c.in-Text-Text.is-1, view-Text, kind_view-Text) refl

pub has-returns-then-len-most : goal.has-returns-then-len-most
has-returns-then-len-most t c =
    let p = c.in-List-List in
    let at_most : length p.items.value.parts.items ≤ p.most = omega (arith, ap length (ap (λ v. v.items) (c.deref-in-List-List-2.ensures ∙ ap (λ w. w.parts) c.deref-in-List-List.ensures)), c.len.ensures, c.if-len-most.true) in
    c.has_each.ensures
    ∙ rw (p.is-0, p.is-1, view-List, kind_view-List, keeps-short p.items.value.parts.items (kind_view p.item.value.parts) p.most at_most, c.deref-then-len-most-2.ensures, c.deref-then-len-most.ensures, c.deref-then-len-most-5.ensures.value, c.deref-then-len-most-4.ensures, c.deref-then-len-most-3.ensures) refl

pub has-returns-else-len-most : goal.has-returns-else-len-most
has-returns-else-len-most t c =
    let p = c.in-List-List in
    let size : c.len.result ≡ length p.items.value.parts.items = omega (arith, ap length (ap (λ v. v.items) (c.deref-in-List-List-2.ensures ∙ ap (λ w. w.parts) c.deref-in-List-List.ensures)), c.len.ensures) in
    let above : p.most < length p.items.value.parts.items = omega (arith, size, c.if-len-most.false) in
    let no : nat_le c.len.result p.most ≡ false = grind (arith, nat_tests) in
    no ∙ rw (p.is-0, p.is-1, view-List, kind_view-List, keeps-long p.items.value.parts.items (kind_view p.item.value.parts) p.most above) refl

pub has-returns-then-has_fields : goal.has-returns-then-has_fields
has-returns-then-has_fields t c =
    let p = c.in-Rec-Rec in
    let there = sym c.has_fields.ensures ∙ c.if-has_fields.true in
    let there : slots_kept (fields_view p.fields.value.parts.entries) (slots_view p.slots.value.parts.entries) ≡ true = rw (c.deref-in-Rec-Rec-2.ensures, c.deref-in-Rec-Rec.ensures, c.deref-in-Rec-Rec-4.ensures, c.deref-in-Rec-Rec-3.ensures) at there in
    c.are_listed.ensures
    ∙ rw (p.is-0, p.is-1, view-Rec, kind_view-Rec, there, c.deref-then-has_fields-2.ensures, c.deref-then-has_fields.ensures, c.deref-then-has_fields-4.ensures, c.deref-then-has_fields-3.ensures) refl

pub has-returns-else-has_fields : goal.has-returns-else-has_fields
has-returns-else-has_fields t c =
    let p = c.in-Rec-Rec in
    let lacks = sym c.has_fields.ensures ∙ c.if-has_fields.false in
    let lacks : slots_kept (fields_view p.fields.value.parts.entries) (slots_view p.slots.value.parts.entries) ≡ false = rw (c.deref-in-Rec-Rec-2.ensures, c.deref-in-Rec-Rec.ensures, c.deref-in-Rec-Rec-4.ensures, c.deref-in-Rec-Rec-3.ensures) at lacks in
    c.if-has_fields.false ∙ rw (p.is-0, p.is-1, view-Rec, kind_view-Rec, lacks) refl

pub has-returns-in-Result-Rec : goal.has-returns-in-Result-Rec
has-returns-in-Result-Rec t c =
    let p = c.in-Result-Rec in
    c.has_case.ensures ∙ rw (p.is-0, p.is-1, view-Rec, kind_view-Result, c.deref-in-Result-Rec-3.ensures.value, c.deref-in-Result-Rec-2.ensures, c.deref-in-Result-Rec.ensures, c.deref-in-Result-Rec-5.ensures, c.deref-in-Result-Rec-4.ensures) refl
