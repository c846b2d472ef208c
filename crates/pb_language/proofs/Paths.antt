-- The value at the end of a path, and what is known of it.
use Rattle.std.proofs.Common.{◌≡◌, List, [], ◌∷◌, Bool, true, false, not, ◌&&◌, Option, Some, None, ⊎_elim, refl, true≢false}
use Rattle.pb_semantics.specs.Data.{Data, Fields, boolean, rec, field_value}
use Rattle.pb_semantics.specs.Kind.{KindData, Cases, Spot, never, recs, results, anything, no_cases, one, nowhere, spot}
use Rattle.pb_semantics.specs.Keeps.{keeps, cases_kept, has_status, spot_ok}
use Rattle.pb_semantics.specs.Below.{below, all_cases}
use Rattle.pb_semantics.specs.Join.{join, join_spot}
use Rattle.pb_semantics.specs.Well.{Well}
use Rattle.pb_semantics.proofs.Bools.{untrue, and-left, and-right, or-cases}
use Rattle.pb_semantics.proofs.Kept.{nothing_keeps_never}
use Rattle.pb_semantics.proofs.KeepsUp.{keeps_up}
use Rattle.pb_semantics.proofs.JoinAbove.{joins_above}
use Rattle.pb_language.specs.Expression.{Name}
use Rattle.pb_language.specs.Evaluation.{no_field, wrong_sort, Outcome, value, stuck, Look, there, absent, failing, or_stuck, value_below, is_value, found, read, is_there, value_else, or_else}
use Rattle.pb_language.specs.Scope.{spot_kind, below_spot}
use Rattle.pb_language.specs.Kinds.{step_spot, path_spot, shown_spot, default_kind}
use Rattle.pb_language.specs.Wells.{WellSpot}
use Rattle.pb_language.proofs.WithSlot.{record_models}
use Rattle.pb_language.proofs.WellKinds.{well_step}

-- a value that keeps one of two kinds keeps their join
pub keeps_first : (d : Data) (k m : KindData) → Well k → Well m → keeps d k ≡ true → keeps d (join k m) ≡ true
keeps_first d k m w v h = keeps_up d k (join k m) (joins_above k m w v).0 h

pub keeps_second : (d : Data) (k m : KindData) → Well k → Well m → keeps d m ≡ true → keeps d (join k m) ≡ true
keeps_second d k m w v h = keeps_up d m (join k m) (joins_above k m w v).1 h

not-first : (a b : Bool) → not a ≡ true → not (a && b) ≡ true
not-first true b h = untrue h
not-first false b h = refl

pub not-second : (a b : Bool) → not b ≡ true → not (a && b) ≡ true
not-second true b h = h
not-second false b h = refl

pub meets_first : (o : Option Data) (s t : Spot) → WellSpot s → WellSpot t → spot_ok o s ≡ true → spot_ok o (join_spot s t) ≡ true
meets_first None nowhere nowhere w v h = refl
meets_first None nowhere (spot b m) w v h = refl
meets_first None (spot a k) nowhere w v h = refl
meets_first None (spot a k) (spot b m) w v h = not-first a b h
meets_first (Some d) nowhere t w v h = untrue h
meets_first (Some d) (spot a k) nowhere w v h = h
meets_first (Some d) (spot a k) (spot b m) w v h = keeps_first d k m w v h

pub meets_second : (o : Option Data) (s t : Spot) → WellSpot s → WellSpot t → spot_ok o t ≡ true → spot_ok o (join_spot s t) ≡ true
meets_second None nowhere nowhere w v h = refl
meets_second None nowhere (spot b m) w v h = refl
meets_second None (spot a k) nowhere w v h = refl
meets_second None (spot a k) (spot b m) w v h = not-second a b h
meets_second (Some d) s nowhere w v h = untrue h
meets_second (Some d) nowhere (spot b m) w v h = h
meets_second (Some d) (spot a k) (spot b m) w v h = keeps_second d k m w v h

-- a result's record is of what is known of all its cases
pub kept_known : (fs : Fields) (cs : Cases) (r : KindData) → all_cases (λ m sh fl k. below k r) cs ≡ true → cases_kept fs cs ≡ true → keeps (rec fs) r ≡ true
kept_known fs no_cases r a h = untrue h
kept_known fs (one m sh fl k cs) r a h =
    let later = all_cases (λ m sh fl k. below k r) cs in
    ⊎_elim (λ x. keeps_up (rec fs) k r (and-left (below k r) later a) (and-right (has_status sh fl fs) (keeps (rec fs) k) x))
    (λ y. kept_known fs cs r (and-right (below k r) later a) y) (or-cases (has_status sh fl fs && keeps (rec fs) k) (cases_kept fs cs) h)

any_ok : (o : Option Data) → spot_ok o (spot false anything) ≡ true
any_ok None = refl
any_ok (Some d) = refl

-- the field of a record
pub field_ok : (n : Name) (fs : Fields) (k : KindData) → Well k → keeps (rec fs) k ≡ true → spot_ok (field_value n fs) (step_spot n k) ≡ true
field_ok n fs never w h = untrue h
field_ok n fs (recs ss) w h = (record_models fs ss h).at n
field_ok n fs (results cs never) w h = untrue (kept_known fs cs never w.2.above h)
field_ok n fs (results cs (recs ss)) w h = (record_models fs ss (kept_known fs cs (recs ss) w.2.above h)).at n
field_ok n fs (results cs r) w h = untrue w.2.known
field_ok n fs anything w h = any_ok (field_value n fs)
field_ok n fs k w h = untrue h

abbrev is_rec : Data → Bool
is_rec (rec fs) = true
is_rec d = false

-- what is no record has no field for certain
no_step : (n : Name) (d : Data) (k : KindData) → is_rec d ≡ false → keeps d k ≡ true → spot_ok None (step_spot n k) ≡ true
no_step n d never i h = untrue (nothing_keeps_never d h)
no_step n (rec fs) k i h = absurd (true≢false i)
no_step n d (recs ss) i h = untrue h
no_step n d (results cs r) i h = untrue h
no_step n d k i h = refl

abbrev pub as_option : Outcome → Option Data
as_option (value d) = Some d
as_option (stuck y) = None

path_nowhere : (ns : List Name) → path_spot ns nowhere ≡ nowhere
path_nowhere [] = refl
path_nowhere (n ∷ ns) = refl

below_loose : (ns : List Name) (s : Spot) → ((k : KindData) → spot_ok None (path_spot ns (spot false k)) ≡ true) → spot_ok None (path_spot ns (below_spot false s)) ≡ true
below_loose ns nowhere f = rw (path_nowhere ns) refl
below_loose ns (spot b k) f = f k

path_loose : (ns : List Name) (k : KindData) → spot_ok None (path_spot ns (spot false k)) ≡ true
path_loose [] k = refl
path_loose (n ∷ ns) k = below_loose ns (step_spot n k) (λ j. path_loose ns j)

-- below a name that may be missing nothing is certain
pub path_missing : (ns : List Name) (s : Spot) → spot_ok None s ≡ true → spot_ok None (path_spot ns s) ≡ true
path_missing ns nowhere h = rw (path_nowhere ns) refl
path_missing ns (spot true k) h = untrue h
path_missing ns (spot false k) h = path_loose ns k

after_step : (ns : List Name) (a : Bool) (o : Option Data) (s : Spot)
    → ((d : Data) (b : Bool) (k : KindData) → Well k → keeps d k ≡ true → spot_ok (as_option (value_below ns d)) (path_spot ns (spot b k)) ≡ true)
    → WellSpot s → spot_ok o s ≡ true → spot_ok (as_option (or_stuck no_field (value_below ns) o)) (path_spot ns (below_spot a s)) ≡ true
after_step ns a None nowhere f w h = rw (path_nowhere ns) refl
after_step ns a None (spot b k) f w h = path_missing ns (spot (a && b) k) (not-second a b h)
after_step ns a (Some d) nowhere f w h = untrue h
after_step ns a (Some d) (spot b k) f w h = f d (a && b) k w h

-- what is known of the value at the end of a path is so
pub path_ok : (ns : List Name) (d : Data) (a : Bool) (k : KindData) → Well k → keeps d k ≡ true → spot_ok (as_option (value_below ns d)) (path_spot ns (spot a k)) ≡ true
path_ok [] d a k w h = h
path_ok (n ∷ ns) (rec fs) a k w h = after_step ns a (field_value n fs) (step_spot n k) (λ d b m v i. path_ok ns d b m v i) (well_step n k w) (field_ok n fs k w h)
path_ok (n ∷ ns) d a k w h = after_step ns a None (step_spot n k) (λ e b m v i. path_ok ns e b m v i) (well_step n k w) (no_step n d k refl h)

-- what stands at a root, beside what is known of it
abbrev pub look_ok : Look → Spot → Bool
look_ok (there d) s = spot_ok (Some d) s
look_ok absent s = spot_ok None s
look_ok (failing y) s = true

pub found_ok : (o : Option Data) (s : Spot) → spot_ok o s ≡ true → look_ok (found o) s ≡ true
found_ok None s h = h
found_ok (Some d) s h = h

-- an outcome that, where it is a value, is of the kind
abbrev pub kept_if : Outcome → KindData → Bool
kept_if (value d) k = keeps d k
kept_if (stuck y) k = true

kept_path : (o : Outcome) (s : Spot) → spot_ok (as_option o) s ≡ true → kept_if o (spot_kind s) ≡ true
kept_path (value d) nowhere h = untrue h
kept_path (value d) (spot a k) h = h
kept_path (stuck y) s h = refl

pub kept_read : (ns : List Name) (l : Look) (s : Spot) → WellSpot s → look_ok l s ≡ true → kept_if (read ns l) (spot_kind (path_spot ns s)) ≡ true
kept_read ns (there d) nowhere w h = untrue h
kept_read ns (there d) (spot a k) w h = kept_path (value_below ns d) (path_spot ns (spot a k)) (path_ok ns d a k w h)
kept_read ns absent s w h = refl
kept_read ns (failing y) s w h = refl

kept_default : (p o : Outcome) (s : Spot) (m : KindData) → WellSpot s → Well m → spot_ok (as_option p) s ≡ true → kept_if o m ≡ true → kept_if (value_else p o) (default_kind s m) ≡ true
kept_default (value d) o nowhere m w v h i = untrue h
kept_default (value d) o (spot true k) m w v h i = h
kept_default (value d) o (spot false k) m w v h i = keeps_first d k m w v h
kept_default (stuck y) o nowhere m w v h i = i
kept_default (stuck y) o (spot true k) m w v h i = untrue h
kept_default (stuck y) (value d) (spot false k) m w v h i = keeps_second d k m w v i
kept_default (stuck y) (stuck z) (spot false k) m w v h i = refl

kept_else : (ns : List Name) (l : Look) (o : Outcome) (s : Spot) (m : KindData) → WellSpot s → WellSpot (path_spot ns s) → Well m → look_ok l s ≡ true → kept_if o m ≡ true
    → kept_if (or_else ns l o) (default_kind (path_spot ns s) m) ≡ true
kept_else ns (there d) o nowhere m w p v h i = untrue h
kept_else ns (there d) o (spot a k) m w p v h i = kept_default (value_below ns d) o (path_spot ns (spot a k)) m p v (path_ok ns d a k w h) i
kept_else ns absent o s m w p v h i = kept_default (stuck wrong_sort) o (path_spot ns s) m p v (path_missing ns s h) i
kept_else ns (failing y) o s m w p v h i = refl

-- what is there where a test showed it
kept_there : (o p : Outcome) (s : Spot) (m : KindData) → is_value o ≡ true → spot_ok (as_option o) s ≡ true → kept_if (value_else o p) (default_kind (shown_spot true s) m) ≡ true
kept_there (value d) p nowhere m i h = untrue h
kept_there (value d) p (spot a k) m i h = h
kept_there (stuck y) p s m i h = untrue i

kept_present : (ns : List Name) (l : Look) (o : Outcome) (s : Spot) (m : KindData) → WellSpot s → look_ok l s ≡ true → is_there ns l ≡ value (boolean true)
    → kept_if (or_else ns l o) (default_kind (shown_spot true (path_spot ns s)) m) ≡ true
kept_present ns (there d) o nowhere m w h i = untrue h
kept_present ns (there d) o (spot a k) m w h i = let x : is_value (value_below ns d) ≡ true = cc in kept_there (value_below ns d) o (path_spot ns (spot a k)) m x (path_ok ns d a k w h)
kept_present ns absent o s m w h i = let x : false ≡ true = cc in untrue x
kept_present ns (failing y) o s m w h i = absurd (cc)

pub kept_shown : (q : Bool) (ns : List Name) (l : Look) (o : Outcome) (s : Spot) (m : KindData) → (q ≡ true → is_there ns l ≡ value (boolean true)) → WellSpot s → WellSpot (path_spot ns s) → Well m → look_ok l s ≡ true
    → kept_if o m ≡ true → kept_if (or_else ns l o) (default_kind (shown_spot q (path_spot ns s)) m) ≡ true
kept_shown true ns l o s m f w p v h i = kept_present ns l o s m w h (f refl)
kept_shown false ns l o s m f w p v h i = kept_else ns l o s m w p v h i
