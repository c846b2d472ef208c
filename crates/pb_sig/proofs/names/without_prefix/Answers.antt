use Rattle.std.proofs.Common.{◌≡◌, ◌==◌, ℕ, List, true, false, cond, Option, None, Bor, length, drop, sym, ap, subst, ◌∙◌}
use Rattle.std.specs.List.{starts_with}
use Rattle.std.specs.Option.{MatchOption}
use Rattle.std.specs.Str.{IsCharBoundary}
use Rattle.std.specs.Str.Pattern.{FindsTextPrefix, StripsPrefix}
use Rattle.std.proofs.lemmas.Str.Pattern.{starts_text}
use Rattle.pb_language.specs.TaskForm.{builtin_prefix, without_prefix}
use Rattle.pb_sig.proofs.names.without_prefix.Goals as goal

abbrev IsStripped : List ℕ → Option (Bor (List ℕ)) → Type 0
IsStripped n r = MatchOption r (FindsTextPrefix builtin_prefix n None) (λ x. StripsPrefix (FindsTextPrefix builtin_prefix) n x.now)

stripped : (n x : List ℕ) → StripsPrefix (FindsTextPrefix builtin_prefix) n x → x ≡ without_prefix n
stripped n x h =
    let starts : true ≡ starts_with (λ a b. a == b) n builtin_prefix = starts_text true builtin_prefix n (h.0, h.1, subst (IsCharBoundary n) (sym h.1.0) h.1.2) in
    h.2 ∙ ap (λ k. drop k n) h.1.0 ∙ ap (λ q. cond q (drop (length builtin_prefix) n) n) starts

kept : (n : List ℕ) → FindsTextPrefix builtin_prefix n None → n ≡ without_prefix n
kept n h =
    let other : false ≡ starts_with (λ a b. a == b) n builtin_prefix = starts_text false builtin_prefix n h in
    ap (λ q. cond q (drop (length builtin_prefix) n) n) other

pub returns-in-Some : goal.returns-in-Some
returns-in-Some c = stripped c.args.name.now c.in-Some.rest.now (subst (IsStripped c.args.name.now) c.in-Some.is c.strip_prefix.ensures.cases)

pub returns-in-None : goal.returns-in-None
returns-in-None c = kept c.args.name.now (subst (IsStripped c.args.name.now) c.in-None.is c.strip_prefix.ensures.cases)
