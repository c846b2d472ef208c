-- What tests taught of hosts by their names: one found, one put in, and what two ways both teach.
use Rattle.std.proofs.Common.{◌≡◌, List, [], ◌∷◌, ◌++◌, append_assoc, Bool, true, false, ◌||◌, BTreeMap, Option, Some, None, cond, bytes_eq, String, Global, string_bytes, refl, sym, ap, ◌∙◌}
use Rattle.std.specs.List.{AllByRecursion, IsDistinct}
use Rattle.std.specs.Map.{keys_of, lookup}
use Rattle.std.proofs.lemmas.Map.Keys.{IsDistinct-head, IsDistinct-tail}
use Rattle.indexmap.specs.IndexMap.{insert_entry}
use Rattle.pb_semantics.specs.Kind.{Slots, no_slots, slot}
use Rattle.pb_semantics.proofs.Bools.{true-false}
use Rattle.pb_semantics.proofs.Names.{same_name, own_name}
use Rattle.pb_language.specs.Expression.{Name}
use Rattle.pb_language.specs.Scope.{View, both_slots, both_views, has_view, put_view, view_of}
use Rattle.pb_kind.specs.KindView.{slots_view}
use Rattle.pb_kind.specs.declared.kind.Kind.{Kind}
use Rattle.pb_kind.specs.declared.kind.Slot.{Slot}
use Rattle.pb_taught.specs.TaughtView.{views_view}

abbrev pub SlotMap : Type 0
SlotMap = BTreeMap (String Global) (Slot Kind)

abbrev pub ViewEntry : Type 0
ViewEntry = String Global × SlotMap

abbrev pub slots_in : Option SlotMap → Slots
slots_in None = no_slots
slots_in (Some m) = slots_view m.entries

found-here : (q : Bool) (m : SlotMap) (rest : Option SlotMap) (ss : Slots) → slots_in rest ≡ ss → slots_in (cond q (Some m) rest) ≡ cond q (slots_view m.entries) ss
found-here true m rest ss h = refl
found-here false m rest ss h = h

-- a look-up finds what was taught of the host
pub found-view : (g : Name) (vs : List ViewEntry) → slots_in (lookup (λ k. bytes_eq g (string_bytes k)) vs) ≡ view_of g (views_view vs)
found-view g [] = refl
found-view g (v ∷ vs) = found-here (bytes_eq g (string_bytes v.0)) v.1 (lookup (λ k. bytes_eq g (string_bytes k)) vs) (view_of g (views_view vs)) (found-view g vs)

insert-step : (q : Bool) (e : ViewEntry) (m : SlotMap) (es fs : List ViewEntry) (vs : List View) → views_view fs ≡ vs
    → views_view (cond q ((e.0, m) ∷ es) (e ∷ fs)) ≡ cond q (record { host = string_bytes e.0; slots = slots_view m.entries } ∷ views_view es) (record { host = string_bytes e.0; slots = slots_view e.1.entries } ∷ vs)
insert-step true e m es fs vs h = refl
insert-step false e m es fs vs h = ap (λ us. record { host = string_bytes e.0; slots = slots_view e.1.entries } ∷ us) h

pub views-insert : (es : List ViewEntry) (k : String Global) (m : SlotMap) → views_view (insert_entry (λ a b. bytes_eq (string_bytes a) (string_bytes b)) es k m) ≡ put_view (string_bytes k) (slots_view m.entries) (views_view es)
views-insert [] k m = refl
views-insert (e ∷ es) k m =
    insert-step (bytes_eq (string_bytes k) (string_bytes e.0)) e m es (insert_entry (λ a b. bytes_eq (string_bytes a) (string_bytes b)) es k m)
    (put_view (string_bytes k) (slots_view m.entries) (views_view es)) (views-insert es k m)

twice-step : (q : Bool) (g : Name) (ss ts : Slots) (v : View) (vs : List View) → bytes_eq g v.host ≡ q → put_view g ss (put_view g ts vs) ≡ put_view g ss vs
    → put_view g ss (cond q (record { host = v.host; slots = ts } ∷ vs) (v ∷ put_view g ts vs)) ≡ cond q (record { host = v.host; slots = ss } ∷ vs) (v ∷ put_view g ss vs)
twice-step true g ss ts v vs e h =
    ap (λ q. cond q (record { host = v.host; slots = ss } ∷ vs) (record { host = v.host; slots = ts } ∷ put_view g ss vs)) e
twice-step false g ss ts v vs e h =
    ap (λ q. cond q (record { host = v.host; slots = ss } ∷ put_view g ts vs) (v ∷ put_view g ss (put_view g ts vs))) e ∙ ap (λ us. v ∷ us) h

-- of two put in under one name the last one stays
pub put-twice : (g : Name) (ss ts : Slots) (vs : List View) → put_view g ss (put_view g ts vs) ≡ put_view g ss vs
put-twice g ss ts [] = ap (λ q. cond q (record { host = g; slots = ss } ∷ []) (record { host = g; slots = ts } ∷ record { host = g; slots = ss } ∷ [])) (own_name g)
put-twice g ss ts (v ∷ vs) = twice-step (bytes_eq g v.host) g ss ts v vs refl (put-twice g ss ts vs)

-- of what one way alone teaches, both teach nothing
pub both-none : (ss : Slots) → both_slots ss no_slots ≡ no_slots
both-none no_slots = refl
both-none (slot n a k ss) = both-none ss

-- the last with what both say of each host of the first put into it
abbrev pub views_onto : List View → List View → List View → List View
views_onto [] ws us = us
views_onto (v ∷ vs) ws us = views_onto vs ws (put_view v.host (both_slots v.slots (view_of v.host ws)) us)

abbrev AreOnce : List View → Type 0
AreOnce [] = Unit {0}
AreOnce (v ∷ vs) = (has_view v.host vs ≡ false) × AreOnce vs

abbrev AreApart : List View → List View → Type 0
AreApart [] us = Unit {0}
AreApart (v ∷ vs) us = (has_view v.host us ≡ false) × AreApart vs us

first-false : (q r : Bool) → q || r ≡ false → q ≡ false
first-false true r h = h
first-false false r h = refl

later-false : (q r : Bool) → q || r ≡ false → r ≡ false
later-false true r h = true-false true refl h
later-false false r h = h

both-false : (q r : Bool) → q ≡ false → r ≡ false → q || r ≡ false
both-false true r e h = true-false true refl e
both-false false r e h = h

turned-at : (q : Bool) (n m : Name) → bytes_eq m n ≡ q → bytes_eq n m ≡ false → q ≡ false
turned-at true n m e h = let x : n ≡ m = sym (same_name m n e) in true-false (bytes_eq n m) (rw x (own_name m)) h
turned-at false n m e h = refl

new-step : (q r : Bool) (v : View) (us vs ws : List View) → q || r ≡ false → (r ≡ false → vs ≡ ws) → cond q us (v ∷ vs) ≡ v ∷ ws
new-step true r v us vs ws h f = true-false true refl h
new-step false r v us vs ws h f = ap (λ os. v ∷ os) (f h)

put-new : (g : Name) (ss : Slots) (us : List View) → has_view g us ≡ false → put_view g ss us ≡ us ++ record { host = g; slots = ss } ∷ []
put-new g ss [] h = refl
put-new g ss (u ∷ us) h =
    new-step (bytes_eq g u.host) (has_view g us) u (record { host = u.host; slots = ss } ∷ us) (put_view g ss us) (us ++ record { host = g; slots = ss } ∷ []) h (λ x. put-new g ss us x)

has-push : (g : Name) (us : List View) (v : View) → has_view g us ≡ false → bytes_eq g v.host ≡ false → has_view g (us ++ v ∷ []) ≡ false
has-push g [] v h e = both-false (bytes_eq g v.host) false e refl
has-push g (u ∷ us) v h e =
    both-false (bytes_eq g u.host) (has_view g (us ++ v ∷ [])) (first-false (bytes_eq g u.host) (has_view g us) h) (has-push g us v (later-false (bytes_eq g u.host) (has_view g us) h) e)

apart-push : (vs us : List View) (v : View) → has_view v.host vs ≡ false → AreApart vs us → AreApart vs (us ++ v ∷ [])
apart-push [] us v h a = tt
apart-push (w ∷ vs) us v h a =
    let differ = first-false (bytes_eq v.host w.host) (has_view v.host vs) h in
    (has-push w.host us v a.0 (turned-at (bytes_eq w.host v.host) v.host w.host refl differ), apart-push vs us v (later-false (bytes_eq v.host w.host) (has_view v.host vs) h) a.1)

append-none : (us : List View) → us ≡ us ++ []
append-none [] = refl
append-none (u ∷ us) = ap (λ vs. u ∷ vs) (append-none us)

both-onto : (vs ws us : List View) → AreOnce vs → AreApart vs us → views_onto vs ws us ≡ us ++ both_views vs ws
both-onto [] ws us o a = append-none us
both-onto (v ∷ vs) ws us o a =
    let new : View = record { host = v.host; slots = both_slots v.slots (view_of v.host ws) } in
    ap (views_onto vs ws) (put-new v.host (both_slots v.slots (view_of v.host ws)) us a.0)
    ∙ both-onto vs ws (us ++ new ∷ []) o.1 (apart-push vs us new o.0 a.1) ∙ append_assoc us (new ∷ []) (both_views vs ws)

apart-none : (vs : List View) → AreApart vs []
apart-none [] = tt
apart-none (v ∷ vs) = (refl, apart-none vs)

none-after : (n : String Global) (es : List ViewEntry) → AllByRecursion (λ y. bytes_eq (string_bytes n) (string_bytes y) ≡ false) (keys_of es) → has_view (string_bytes n) (views_view es) ≡ false
none-after n [] h = refl
none-after n (e ∷ es) h = both-false (bytes_eq (string_bytes n) (string_bytes e.0)) (has_view (string_bytes n) (views_view es)) h.0 (none-after n es h.1)

once-of : (es : List ViewEntry) → IsDistinct (λ a b. bytes_eq (string_bytes a) (string_bytes b)) (keys_of es) → AreOnce (views_view es)
once-of [] h = tt
once-of (e ∷ es) h =
    (none-after e.0 es (IsDistinct-head (λ a b. bytes_eq (string_bytes a) (string_bytes b)) e.0 (keys_of es) h), once-of es (IsDistinct-tail (λ a b. bytes_eq (string_bytes a) (string_bytes b)) e.0 (keys_of es) h))

-- each host stands once, so each is put in behind those before it
pub views-both : (es : List ViewEntry) (ws : List View) → IsDistinct (λ a b. bytes_eq (string_bytes a) (string_bytes b)) (keys_of es) → views_onto (views_view es) ws [] ≡ both_views (views_view es) ws
views-both es ws h = both-onto (views_view es) ws [] (once-of es h) (apart-none (views_view es))

-- the last with each of the first put into it
abbrev pub copied_onto : List ViewEntry → List View → List View
copied_onto [] us = us
copied_onto (e ∷ es) us = copied_onto es (put_view (string_bytes e.0) (slots_view e.1.entries) us)

each-onto : (es : List ViewEntry) (us : List View) → AreOnce (views_view es) → AreApart (views_view es) us → copied_onto es us ≡ us ++ views_view es
each-onto [] us o a = append-none us
each-onto (e ∷ es) us o a =
    let new : View = record { host = string_bytes e.0; slots = slots_view e.1.entries } in
    ap (copied_onto es) (put-new new.host new.slots us a.0) ∙ each-onto es (us ++ new ∷ []) o.1 (apart-push (views_view es) us new o.0 a.1) ∙ append_assoc us (new ∷ []) (views_view es)

pub views-copied : (es : List ViewEntry) → IsDistinct (λ a b. bytes_eq (string_bytes a) (string_bytes b)) (keys_of es) → copied_onto es [] ≡ views_view es
views-copied es h = each-onto es [] (once-of es h) (apart-none (views_view es))
