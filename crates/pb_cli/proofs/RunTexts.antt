-- The lines of a run and its status, host by host.
use Rattle.std.proofs.Common.{◌≡◌, ◌<◌, ℕ, ◌+◌, List, ◌∷◌, ◌++◌, Bool, ◌||◌, map, drop, get_or, length, nat_lt, true, Some, option_map, slice_get, refl, sym, ap, subst, ◌∙◌, append_assoc}
use Rattle.std.specs.List.{list_any}
use Rattle.std.proofs.lemmas.Bool.{lt-ltb}
use Rattle.std.proofs.lemmas.List.{drop_more}
use Rattle.std.proofs.lemmas.Option.{slice_get-map, slice_get_within, get_or_from_slice_get}
use Rattle.pb_language.specs.Machine.{Recap, empty_recap}
use Rattle.pb_language.specs.World.{HostVariables}
use Rattle.pb_inventory.specs.Inventory.{inventory_view}
use Rattle.pb_executor.specs.States.{RunState}
use Rattle.pb_cli.specs.Texts.{recap_line, recap_lines, recaps_of, run_lines, host_names, some_failed}

abbrev name_in : HostVariables → List ℕ
name_in h = h.name

names_from : (hs : List HostVariables) (i : ℕ) (name : List ℕ) → option_map name_in (slice_get hs i) ≡ Some name
    → drop i (map name_in hs) ≡ name ∷ drop (i + 1) (map name_in hs)
names_from hs i name e =
    let found : slice_get (map name_in hs) i ≡ Some name = slice_get-map name_in hs i ∙ e in
    drop_more (map name_in hs) i name (slice_get_within (map name_in hs) i name found)
    ∙ ap (λ x. x ∷ drop (i + 1) (map name_in hs)) (get_or_from_slice_get (map name_in hs) i name name found)

-- what is left after one line more
pub run_lines-next : (r : RunState) (i : ℕ) (name : List ℕ) (recap : Recap) (text line : List ℕ)
    → option_map name_in (slice_get (inventory_view r.accepted.inventory).hosts i) ≡ Some name → recap ≡ get_or (recaps_of r) i empty_recap → i < length (recaps_of r)
    → line ≡ recap_line name recap → run_lines r ≡ text ++ recap_lines (drop i (host_names r)) (drop i (recaps_of r))
    → run_lines r ≡ (text ++ line) ++ recap_lines (drop (i + 1) (host_names r)) (drop (i + 1) (recaps_of r))
run_lines-next r i name recap text line named counted within is so_far =
    let left : recap_lines (drop i (host_names r)) (drop i (recaps_of r)) ≡ line ++ recap_lines (drop (i + 1) (host_names r)) (drop (i + 1) (recaps_of r)) =
    rw (names_from (inventory_view r.accepted.inventory).hosts i name named, drop_more (recaps_of r) i empty_recap within, is, counted) refl in
    so_far ∙ ap (λ x. text ++ x) left ∙ sym (append_assoc text line _)

-- what a test finds from here on: at the next recap, or after it
pub any_from : (test : Recap → Bool) (rs : List Recap) (i : ℕ) → i < length rs
    → list_any test (drop i rs) ≡ test (get_or rs i empty_recap) || list_any test (drop (i + 1) rs)
any_from test rs i within = ap (list_any test) (drop_more rs i empty_recap within)

-- some host's task failed, where this host's did
pub some_failed-here : (rs : List Recap) (i : ℕ) (r : Recap) → i < length rs → r ≡ get_or rs i empty_recap → 0 < r.failed → some_failed rs ≡ some_failed (drop i rs)
    → some_failed rs ≡ true
some_failed-here rs i r within is positive so_far =
    let here : nat_lt 0 (get_or rs i empty_recap).failed ≡ true = subst (λ x. nat_lt 0 x.failed ≡ true) is (lt-ltb 0 r.failed positive) in
    so_far ∙ any_from (λ x. nat_lt 0 x.failed) rs i within ∙ ap (λ b. b || some_failed (drop (i + 1) rs)) here
