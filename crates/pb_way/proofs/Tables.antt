-- What is known in a table whose names stay.
use Rattle.std.proofs.Common.{◌≡◌, ◌∙◌, List, ap}
use Rattle.pb_language.specs.Expression.{Name}
use Rattle.pb_language.specs.Judgement.{Exit}
use Rattle.pb_lattice.specs.Environments.{IsKept, Stands, exit_of}
use Rattle.pb_lattice.specs.Shared.{Shared}
use Rattle.pb_lattice.specs.declared.environment.Environment.{Environment}
use Rattle.pb_way.specs.Tabled.{Known, known_in}

abbrev known : Exit → List Name → Known
known e ns = record { exit = e; names = ns }

same-known : (e f : Exit) (ns ms : List Name) → e ≡ f → ns ≡ ms → known e ns ≡ known f ms
same-known e f ns ms a b = ap (λ x. known x ns) a ∙ ap (known f) b

pub known-kept : (s u : Shared) (e : Environment) → IsKept s u → Stands s e → Stands u e × (known_in u e ≡ known_in s e)
known-kept s u e k h =
    let stays = k.stays e h in
    (stays.0, same-known (exit_of u e) (exit_of s e) u.names s.names stays.1 k.names)

-- and a table that keeps all that is known there, with its names, is kept
pub kept-known : (s u : Shared) (entry : Environment) → Stands s entry → ((e : Environment) → Stands s e → Stands u e × (known_in u e ≡ known_in s e)) → IsKept s u
kept-known s u entry h f = record {
  names = ap (λ (k : Known). k.names) (f entry h).1;
  stays = λ e i. ((f e i).0, ap (λ (k : Known). k.exit) (f e i).1);
}
