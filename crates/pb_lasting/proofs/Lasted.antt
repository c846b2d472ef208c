-- Names that are listed with their marks last as the visits say.
use Rattle.std.proofs.Common.{◌≡◌, ℕ, List, Bool, true, false, Option, Some, None, refl, sym, ap, subst, ◌∙◌, true≢false}
use Rattle.pb_semantics.specs.Keeps.{is_among}
use Rattle.pb_semantics.specs.Kind.{Slots, no_slots, slot_at}
use Rattle.pb_semantics.proofs.Bools.{untrue}
use Rattle.pb_language.specs.Expression.{Name}
use Rattle.pb_language.specs.Judgement.{Exit, dead, live}
use Rattle.pb_language.specs.Scope.{Since, every_name, is_certain, is_later, no_since}
use Rattle.pb_language.specs.Tables.{certain_from, latest_env, names_since, past_places}
use Rattle.pb_language.specs.Walk.{Visit}
use Rattle.pb_language.specs.Wells.{WellExit}
use Rattle.pb_lattice.specs.Arena.{tree_at}
use Rattle.pb_lattice.specs.Environments.{exit_at, exit_of, is_dead, spot_in}
use Rattle.pb_lattice.specs.Shared.{Shared}
use Rattle.pb_lattice.specs.declared.environment.Environment.{Environment}
use Rattle.pb_lattice.proofs.Halves.{not_among}
use Rattle.pb_hosts.specs.Tables.{every_from, names_from}
use Rattle.pb_hosts.specs.declared.lasting.Lasting.{Lasting}
use Rattle.pb_lasting.specs.Lasts.{Lasts}
use Rattle.pb_lasting.specs.Losses.{AreMarks}
use Rattle.pb_lasting.proofs.Sinces.{listed_at, since_at}

-- what is certain in an exit is among the names
abbrev pub AreTabled : List Name → Exit → Type 0
AreTabled names e = (x : Name) → is_certain (spot_in x e) ≡ true → is_among x names ≡ true

tabled_at : (s : Shared) (o : Option ℕ) → AreTabled s.names (exit_at s o)
tabled_at s None x h = untrue h
tabled_at s (Some i) x h = elsewhere (is_among x s.names) refl where
  elsewhere : (q : Bool) → is_among x s.names ≡ q → q ≡ true
  elsewhere true e = refl
  elsewhere false e = sym (ap is_certain (not_among x (tree_at s.nodes i) s.names e)) ∙ h

pub stands_tabled : (s : Shared) (e : Environment) → AreTabled s.names (exit_of s e)
stands_tabled s e = tabled_at s e.root

pub lasted : (names : List Name) (ss : Slots) (vs : List Visit) (from : List ℕ) (l : Since) (p : ℕ) (x : Name) → WellExit (live ss) → AreTabled names (live ss) → AreMarks names (live ss) vs from
    → is_later (names_from names from l) p x ≡ is_later (names_since vs ss l) p x
lasted names ss vs from l p x well tabled are =
    ap (λ ps. is_later (names_from names ps l) p x) are.marks ∙ listed_at (λ n. is_certain (slot_at n ss)) (λ n. certain_from n vs) p x l names (are.small x) (tabled x)
    ∙ sym (since_at vs l p x ss well.0)

-- where a way leads to the end
pub lasts_alive : (names : List Name) (l : Lasting) (vs : List Visit) (e : Exit) → is_dead e ≡ false → l.every ≡ None → WellExit e → AreTabled names e → AreMarks names e vs l.from.items → Lasts names l vs e
lasts_alive names l vs dead h every well tabled are = absurd (true≢false h)
lasts_alive names l vs (live ss) h every well tabled are = record {
  at = λ p x. ap (λ o. is_later (names_from names l.from.items (every_from o)) p x) every ∙ lasted names ss vs l.from.items no_since p x well tabled are;
}

-- and where none does
pub lasts_dead : (names : List Name) (l : Lasting) (vs : List Visit) (e f : Exit) → is_dead e ≡ true → l.every ≡ Some (past_places vs) → f ≡ live (latest_env 0 no_slots vs) → WellExit f → AreTabled names f → AreMarks names f vs l.from.items
    → Lasts names l vs e
lasts_dead names l vs (live ss) f h every latest well tabled are = untrue h
lasts_dead names l vs dead f h every latest well tabled are = record {
  at = λ p x.
      ap (λ o. is_later (names_from names l.from.items (every_from o)) p x) every
      ∙ lasted names (latest_env 0 no_slots vs) vs l.from.items (every_name (past_places vs) no_since) p x (subst WellExit latest well) (subst (AreTabled names) latest tabled) (subst (λ (g : Exit). AreMarks names g vs l.from.items) latest are);
}
