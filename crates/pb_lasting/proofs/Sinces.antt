-- Names with the places from which on they last, as they are listed.
use Rattle.std.proofs.Common.{◌≡◌, ◌<◌, ℕ, nat_eq, nat_le, List, [], ◌∷◌, map, Bool, true, false, not, ◌&&◌, ◌||◌, cond, bytes_eq, refl, sym, ap, ◌∙◌, arith}
use Rattle.std.proofs.lemmas.Bool.Decides.{nat_tests}
use Rattle.pb_semantics.specs.Kind.{KindData, Slots, Spot, no_slots, slot, nowhere, spot, slot_at, is_there, is_listed}
use Rattle.pb_semantics.specs.Keeps.{is_among}
use Rattle.pb_semantics.specs.Well.{are_once}
use Rattle.pb_semantics.proofs.Bools.{untrue, and-left, and-right, not-true}
use Rattle.pb_semantics.proofs.Names.{same_name}
use Rattle.pb_semantics.proofs.Slots.{listed_is_there}
use Rattle.pb_language.specs.Expression.{Name}
use Rattle.pb_language.specs.Scope.{is_certain, Since, since, is_later}
use Rattle.pb_language.specs.Tables.{certain_from, names_since}
use Rattle.pb_language.specs.Walk.{Visit}
use Rattle.pb_hosts.specs.Tables.{names_from, never_lasts}

-- a name that stands first
first_listed : (b u t m l : Bool) → (b ≡ true → u ≡ t) → (b && u) || ((m && t) || l) ≡ ((b || m) && t) || l
first_listed false u t m l e = refl
first_listed true u true m l e = rw (e refl) refl
first_listed true u false true l e = rw (e refl) refl
first_listed true u false false l e = rw (e refl) refl

listed_step : (e b : Bool) (n x : Name) (q p : ℕ) (r : Since) → b ≡ bytes_eq x n → is_later (cond e r (since n q r)) p x ≡ (b && (not e && nat_le q p)) || is_later r p x
listed_step true true n x q p r h = refl
listed_step true false n x q p r h = refl
listed_step false b n x q p r h = rw h refl

-- of a list with marks that go by the names, it is those that have one
listed : (g : Name → ℕ) (p : ℕ) (x : Name) (l : Since) (ns : List Name)
    → is_later (names_from ns (map g ns) l) p x ≡ (is_among x ns && (not (nat_eq (g x) never_lasts) && nat_le (g x) p)) || is_later l p x
listed g p x l [] = refl
listed g p x l (n ∷ ns) =
    let b = bytes_eq x n in
    let e = nat_eq (g n) never_lasts in
    let t = not (nat_eq (g x) never_lasts) && nat_le (g x) p in
    listed_step e b n x (g n) p (names_from ns (map g ns) l) refl ∙ ap (λ r. (b && (not e && nat_le (g n) p)) || r) (listed g p x l ns)
    ∙ first_listed b (not e && nat_le (g n) p) t (is_among x ns) (is_later l p x) (λ h. ap (λ y. not (nat_eq (g y) never_lasts) && nat_le (g y) p) (sym (same_name x n h)))

lasts_here : (a : Bool) (m p : ℕ) → m < never_lasts → not (nat_eq (cond a m never_lasts) never_lasts) && nat_le (cond a m never_lasts) p ≡ a && nat_le m p
lasts_here true m p h = let other : nat_eq m never_lasts ≡ false = grind (arith, nat_tests) in rw other refl
lasts_here false m p h = refl

among_too : (m a t : Bool) → (a ≡ true → m ≡ true) → m && (a && t) ≡ a && t
among_too m true t h = rw (h refl) refl
among_too true false t h = refl
among_too false false t h = refl

-- where only names of the table are certain
pub listed_at : (certain : Name → Bool) (from : Name → ℕ) (p : ℕ) (x : Name) (l : Since) (ns : List Name) → from x < never_lasts → (certain x ≡ true → is_among x ns ≡ true)
    → is_later (names_from ns (map (λ n. cond (certain n) (from n) never_lasts) ns) l) p x ≡ (certain x && nat_le (from x) p) || is_later l p x
listed_at certain from p x l ns small tabled =
    listed (λ n. cond (certain n) (from n) never_lasts) p x l ns
    ∙ ap (λ q. (is_among x ns && q) || is_later l p x) (lasts_here (certain x) (from x) p small)
    ∙ ap (λ q. q || is_later l p x) (among_too (is_among x ns) (certain x) (nat_le (from x) p) tabled)

-- a name is listed where it is certain
unlisted_spot : (s : Spot) → is_there s ≡ false → is_certain s ≡ false
unlisted_spot nowhere h = refl
unlisted_spot (spot a k) h = untrue (sym h)

unlisted : (x n : Name) (ss : Slots) → bytes_eq x n ≡ true → not (is_listed n ss) ≡ true → is_certain (slot_at x ss) ≡ false
unlisted x n ss e h = rw (same_name x n e) (unlisted_spot (slot_at n ss) (sym (listed_is_there n ss) ∙ not-true (is_listed n ss) h))

certain_slot : (q c d r : Bool) (k : KindData) (s : Spot) → (q ≡ true → is_certain s ≡ false) → (q ≡ true → c ≡ d) → (q && c) || ((is_certain s && d) || r) ≡ (is_certain (cond q (spot true k) s) && d) || r
certain_slot true c d r k s f g = rw (f refl, g refl) refl
certain_slot false c d r k s f g = refl

uncertain_slot : (q d r : Bool) (k : KindData) (s : Spot) → (q ≡ true → is_certain s ≡ false) → (is_certain s && d) || r ≡ (is_certain (cond q (spot false k) s) && d) || r
uncertain_slot true d r k s f = rw (f refl) refl
uncertain_slot false d r k s f = refl

pub since_at : (vs : List Visit) (l : Since) (p : ℕ) (x : Name) (ss : Slots) → are_once ss ≡ true → is_later (names_since vs ss l) p x ≡ (is_certain (slot_at x ss) && nat_le (certain_from x vs) p) || is_later l p x
since_at vs l p x no_slots o = refl
since_at vs l p x (slot n true k ss) o =
    let none = and-left (not (is_listed n ss)) (are_once ss) o in
    ap (λ q. (bytes_eq x n && nat_le (certain_from n vs) p) || q) (since_at vs l p x ss (and-right (not (is_listed n ss)) (are_once ss) o))
    ∙ certain_slot (bytes_eq x n) (nat_le (certain_from n vs) p) (nat_le (certain_from x vs) p) (is_later l p x) k (slot_at x ss) (λ e. unlisted x n ss e none) (λ e. ap (λ m. nat_le (certain_from m vs) p) (sym (same_name x n e)))
since_at vs l p x (slot n false k ss) o =
    let none = and-left (not (is_listed n ss)) (are_once ss) o in
    since_at vs l p x ss (and-right (not (is_listed n ss)) (are_once ss) o) ∙ uncertain_slot (bytes_eq x n) (nat_le (certain_from x vs) p) (is_later l p x) k (slot_at x ss) (λ e. unlisted x n ss e none)
