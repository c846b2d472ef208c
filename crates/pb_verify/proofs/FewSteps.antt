-- Where no rule is broken each play has few steps.
use Rattle.std.proofs.Common.{◌≡◌, ◌≤◌, ◌+◌, ℕ, List, [], ◌∷◌, Bool, true, false, nat_lt, cond, map, Option, Some, None, refl, arith}
use Rattle.std.specs.List.{All}
use Rattle.std.proofs.lemmas.Bool.{ltb-false}
use Rattle.std.proofs.lemmas.List.Elements.{All-cons, All-nil}
use Rattle.pb_semantics.specs.Limits.{most_play_steps}
use Rattle.pb_language.specs.Book.{Registry}
use Rattle.pb_language.specs.Program.{Inventory}
use Rattle.pb_language.specs.Rules.{rules_offence, too_many_steps}
use Rattle.pb_language.specs.Sites.{steps_of}
use Rattle.pb_language.specs.Verdict.{Refusal}
use Rattle.pb_language.proofs.Accepted.{earlier_none}
use Rattle.pb_play.specs.Plays.{play_view}
use Rattle.pb_play.specs.declared.play.Play.{Play}

few_there : (b : Bool) (r : Refusal) (o : Option Refusal) → cond b (Some r) o ≡ None → (b ≡ false) × (o ≡ None)
few_there true r o e = absurd (cc)
few_there false r o e = (refl, e)

few_from : (n : ℕ) (ps : List Play) → too_many_steps n (map play_view ps) ≡ None → All (λ p. steps_of (play_view p) ≤ most_play_steps) ps
few_from n [] e = All-nil (λ p. steps_of (play_view p) ≤ most_play_steps)
few_from n (p ∷ ps) e =
    let here = few_there (nat_lt most_play_steps (n + steps_of (play_view p))) _ (too_many_steps (n + steps_of (play_view p)) (map play_view ps)) e in
    let few = ltb-false most_play_steps (n + steps_of (play_view p)) here.0 in
    All-cons (λ q. steps_of (play_view q) ≤ most_play_steps) p ps (omega (arith, few)) (few_from (n + steps_of (play_view p)) ps here.1)

pub few_steps : (ms : Registry) (i : Inventory) (ps : List Play) → rules_offence ms i (map play_view ps) ≡ None → All (λ p. steps_of (play_view p) ≤ most_play_steps) ps
few_steps ms i ps e = few_from 0 ps ((earlier_none (too_many_steps 0 (map play_view ps)) _ e).0)
