-- Writes one after the other, and what they make of what is known.
use Rattle.std.proofs.Common.{◌≡◌, Bool, true, false, ◌&&◌, not, Option, Some, None, is_none, is_some, refl, sym, ap, ◌∙◌}
use Rattle.pb_semantics.specs.Kind.{KindData, Slots, recs, slot_at}
use Rattle.pb_semantics.specs.Below.{below}
use Rattle.pb_semantics.specs.Well.{Well}
use Rattle.pb_semantics.proofs.Order.{own_below}
use Rattle.pb_language.specs.Cases.{Sets, no_sets, sets, append_sets}
use Rattle.pb_language.specs.Expression.{Name}
use Rattle.pb_language.specs.Ordered.{SetsLe}
use Rattle.pb_language.specs.Scope.{spot_kind, with_spot}
use Rattle.pb_language.specs.Tables.{with_writes, written_spot, writes_below}
use Rattle.pb_language.specs.Wells.{WellSets}
use Rattle.pb_language.proofs.Rounds.{writes_well}
use Rattle.pb_language.proofs.TablesUp.{writes_up}
use Rattle.pb_kind.specs.KindView.{slots_view}
use Rattle.pb_visit.specs.Visits.{registered}
use Rattle.pb_walks.specs.Agree.{SlotsAgree}
use Rattle.pb_walks.proofs.Agreeing.{slots_own, slots_through}
use Rattle.pb_find.specs.Written.{Written}
use Rattle.pb_find.specs.declared.find.Find.{Find}

abbrev pub next_of : Find → Slots
next_of f = slots_view f.next.entries

sets_own : (r : Sets) → WellSets r → SetsLe r r
sets_own no_sets w = tt
sets_own (sets n a k r) w = (refl, refl, own_below k w.0, sets_own r w.1)

-- slots that agree do so with the same writes
pub written_both : (r : Sets) (ss ts : Slots) → WellSets r → Well (recs ss) → Well (recs ts) → SlotsAgree ss ts → SlotsAgree (with_writes r ss) (with_writes r ts)
written_both r ss ts u w v a =
    (writes_up r r ss ts u u w v (sets_own r u) a.0, writes_up r r ts ss u u v w (sets_own r u) a.1)

pub and_true : (a : Bool) → a ≡ a && true
and_true true = refl
and_true false = refl

pub and_again : (a b c : Bool) → (a && b) && c ≡ a && (b && c)
and_again true b c = refl
and_again false b c = refl

written_append : (r s : Sets) (ss : Slots) → with_writes (append_sets r s) ss ≡ with_writes s (with_writes r ss)
written_append no_sets s ss = refl
written_append (sets n a k r) s ss = written_append r s (with_spot n (written_spot (slot_at n ss) k) ss)

below_append : (r s : Sets) (ss : Slots) → writes_below (append_sets r s) ss ≡ writes_below r ss && writes_below s ss
below_append no_sets s ss = refl
below_append (sets n a k r) s ss =
    let b = below k (spot_kind (slot_at n ss)) in
    ap (λ q. b && q) (below_append r s ss) ∙ sym (and_again b (writes_below r ss) (writes_below s ss))

pub well_first : (r s : Sets) → WellSets (append_sets r s) → WellSets r
well_first no_sets s w = tt
well_first (sets n a k r) s w = (w.0, well_first r s w.1)

pub well_second : (r s : Sets) → WellSets (append_sets r s) → WellSets s
well_second no_sets s w = w
well_second (sets n a k r) s w = well_second r s w.1

pub written_nothing : (view : Slots) (f : Find) → Well (recs (next_of f)) → Written no_sets view f f
written_nothing view f w = record { fault = refl; next = slots_own (next_of f) w; well = w; settled = and_true f.is_settled; same = λ h. (h, refl) }

-- writes, and then others
pub written_then : (r s : Sets) (view : Slots) (f g h : Find) → WellSets (append_sets r s) → Well (recs (next_of f)) → Written r view f g → Written s view g h → Written (append_sets r s) view f h
written_then r s view f g h u w x y =
    let wr = writes_well r (next_of f) (well_first r s u) w in
    let ws = writes_well s (next_of g) (well_second r s u) x.well in
    let wt = writes_well s (with_writes r (next_of f)) (well_second r s u) wr in
    let up = written_both s (next_of g) (with_writes r (next_of f)) (well_second r s u) x.well wr x.next in
    record {
      fault = y.fault ∙ x.fault;
      next = rw (written_append r s (next_of f)) (slots_through (next_of h) (with_writes s (next_of g)) (with_writes s (with_writes r (next_of f))) y.well ws wt y.next up);
      well = y.well;
      settled = y.settled ∙ ap (λ q. q && writes_below s view) x.settled ∙ and_again f.is_settled (writes_below r view) (writes_below s view) ∙ ap (λ q. f.is_settled && q) (sym (below_append r s view));
      same = λ e. let b = y.same e in let a = x.same b.0 in (a.0, b.1 ∙ a.1);
    }

-- whether it is written for certain plays no part
pub any_flag : (n : Name) (a b : Bool) (k : KindData) (view : Slots) (f g : Find) → Written (sets n a k no_sets) view f g → Written (sets n b k no_sets) view f g
any_flag n a b k view f g x = record { fault = x.fault; next = x.next; well = x.well; settled = x.settled; same = x.same }

pub both_hold : (a b r : Bool) → a ≡ true → r ≡ b → r ≡ a && b
both_hold true b r h e = e
both_hold false b r h e = absurd (cc)

pub first_fails : (a b r : Bool) → a ≡ false → r ≡ a → r ≡ a && b
first_fails true b r h e = absurd (cc)
first_fails false b r h e = e

pub none_told : {A : Type 0} (o : Option A) (r : Bool) → is_some o ≡ not r → r ≡ is_none o
none_told None true h = refl
none_told None false h = absurd (cc)
none_told (Some x) true h = absurd (cc)
none_told (Some x) false h = refl

-- what is registered where there is no name, or no kind
pub no_name : (o : Option Name) (k : Option KindData) → o ≡ None → registered o k ≡ no_sets
no_name None None h = refl
no_name None (Some k) h = refl
no_name (Some n) k h = absurd (cc)

pub no_kind : (o : Option Name) (k : Option KindData) → k ≡ None → registered o k ≡ no_sets
no_kind o None h = refl
no_kind o (Some k) h = absurd (cc)
