-- Whether the words of a play's texts name hosts and groups.
use Rattle.std.proofs.Common.{◌≡◌, List, [], ◌∷◌, ◌++◌, Bool, true, false, not, cond, Some, None, refl, ap}
use Rattle.pb_language.specs.BookForm.{words_from}
use Rattle.pb_language.specs.Expression.{Name}
use Rattle.pb_inventory.specs.Patterns.{patterns_words}
use Rattle.pb_play.specs.Plays.{words_in}

pub same-words : (ns : List Name) → patterns_words ns ≡ words_in ns
same-words [] = refl
same-words (n ∷ ns) = ap (λ ws. words_from [] n ++ ws) (same-words ns)

pub all-known : {A : Type 0} (b : Bool) (x y : A) → cond b (Some x) None ≡ Some y → false ≡ not b
all-known true x y h = refl
all-known false x y h = (cc)

pub some-unknown : {A : Type 0} (b : Bool) (x : A) → cond b (Some x) None ≡ None → true ≡ not b
some-unknown true x h = (cc)
some-unknown false x h = refl
