-- What the rounds say of chains of names, and of names that stand once.
use Rattle.std.proofs.Common.{◌≡◌, ℕ, zero, suc, ◌+◌, List, [], Bool, true, not, ◌||◌, nat_le, nat_lt, Option, Some, None, option_map, unwrap_or, is_some, refl, sym, ap, ◌∙◌, arith}
use Rattle.std.specs.Bool.{⊤}
use Rattle.std.specs.List.{list_any}
use Rattle.std.proofs.Math.Path.{fun_ext}
use Rattle.pb_language.specs.Expression.{Name, Expression, variable, alias, other, member, Parts, no_parts, part}
use Rattle.pb_language.specs.Expansion.{part_named, depth_in, suc_depth, chain_length}
use Rattle.pb_language.specs.Rules.{any_too_long}
use Rattle.pb_vars.specs.Reads.{Read, value_at, tested_at, alone, looked_for, every_read}
use Rattle.pb_vars.specs.Rounds.{answer_named, through, value_answers, round, after_rounds, by_name, is_outside}
use Rattle.pb_vars.proofs.AfterRounds.{reads-up-to, value-answered, none-answered}

-- a name that is asked has its answer, or what is said of it
asked-here : (a : Name → Option Bool) (f : Name → Bool) (r : Read) → through a (by_name f) r ≡ by_name (λ n. unwrap_or (a n) (f n)) r
asked-here a f (value_at (variable n) ns) = refl
asked-here a f (value_at (alias n e) ns) = refl
asked-here a f (value_at (other t x) ns) = refl
asked-here a f (value_at (member g i) ns) = refl
asked-here a f (tested_at (variable n)) = refl
asked-here a f (tested_at (alias n e)) = refl
asked-here a f (tested_at (other t x)) = refl
asked-here a f (tested_at (member g i)) = refl
asked-here a f (alone o) = refl
asked-here a f (looked_for t) = refl

-- chains that have at most so many names
abbrev pub up_to : ℕ → Parts → Name → Bool
up_to k ps n = nat_le (chain_length (suc k) ps n) k

abbrev pub HaveUpTo : ℕ → Parts → List Bool → Type 0
HaveUpTo k ps bs = (n : Name) → unwrap_or (answer_named n ps bs) (is_outside ps n) ≡ up_to k ps n

first-up-to : (h : Name → ℕ) (o : Option Expression) → not (is_some o) ≡ nat_le (suc_depth (depth_in h) o) 0
first-up-to h None = grind arith
first-up-to h (Some e) = grind arith

begun : (ps : Parts) → HaveUpTo 0 ps []
begun ps n = ap (λ (a : Option Bool). unwrap_or a (is_outside ps n)) (none-answered n ps) ∙ first-up-to (chain_length 0 ps) (part_named n ps)

pub zero-up : (k : ℕ) → true ≡ nat_le 0 k
zero-up k = grind arith

pub one-more : (m k : ℕ) → nat_le m k ≡ nat_le (suc m) (suc k)
one-more m k = grind arith

next-up-to : (h : Name → ℕ) (k : ℕ) (o : Option Expression) → unwrap_or (option_map (every_read (by_name (λ n. nat_le (h n) k))) o) (not (is_some o)) ≡ nat_le (suc_depth (depth_in h) o) (suc k)
next-up-to h k None = zero-up (suc k)
next-up-to h k (Some e) = reads-up-to h k e ∙ one-more (depth_in h e) k

question-is : (k : ℕ) (ps : Parts) (bs : List Bool) → HaveUpTo k ps bs → through (λ n. answer_named n ps bs) (by_name (is_outside ps)) ≡ by_name (up_to k ps)
question-is k ps bs h = fun_ext (asked-here (λ n. answer_named n ps bs) (is_outside ps)) ∙ ap by_name (fun_ext h)

pub round-is : (k : ℕ) (ps : Parts) (bs : List Bool) → HaveUpTo k ps bs → round (by_name (is_outside ps)) ps bs ≡ value_answers (by_name (up_to k ps)) ps
round-is k ps bs h = ap (λ f. value_answers f ps) (question-is k ps bs h)

one-round-up : (k : ℕ) (ps : Parts) (bs : List Bool) → HaveUpTo k ps bs → HaveUpTo (suc k) ps (round (by_name (is_outside ps)) ps bs)
one-round-up k ps bs h n =
    ap (λ (cs : List Bool). unwrap_or (answer_named n ps cs) (is_outside ps n)) (round-is k ps bs h)
    ∙ ap (λ (a : Option Bool). unwrap_or a (is_outside ps n)) (value-answered (by_name (up_to k ps)) n ps)
    ∙ next-up-to (chain_length (suc k) ps) k (part_named n ps)

-- each name of the second is found in the first as it stands there
abbrev pub AreFound : Parts → Parts → Type 0
AreFound scope no_parts = ⊤
AreFound scope (part n e ps) = (part_named n scope ≡ Some e) × AreFound scope ps

next-sum : (m k j : ℕ) → m ≡ suc k + j → m ≡ k + suc j
next-sum m k j h = omega (arith, h)

no-more : (m j : ℕ) → m ≡ 0 + j → j ≡ m
no-more m j h = omega (arith, h)

some-rounds-up : (ps : Parts) (k j m : ℕ) (bs : List Bool) → m ≡ k + j → HaveUpTo j ps bs → HaveUpTo m ps (after_rounds k (by_name (is_outside ps)) ps bs)
some-rounds-up ps zero j m bs e h = λ n. h n ∙ ap (λ i. up_to i ps n) (no-more m j e)
some-rounds-up ps (suc k) j m bs e h = some-rounds-up ps k (suc j) m (round (by_name (is_outside ps)) ps bs) (next-sum m k j e) (one-round-up j ps bs h)

longer : (d : ℕ) → nat_lt 8 (suc d) ≡ not (nat_le d 7)
longer d = grind arith

long-here : (scope : Parts) (m : Name) (e : Expression) → part_named m scope ≡ Some e → nat_lt 8 (chain_length 9 scope m) ≡ not (every_read (by_name (up_to 7 scope)) e)
long-here scope m e h =
    ap (λ o. nat_lt 8 (suc_depth (depth_in (chain_length 8 scope)) o)) h ∙ longer (depth_in (chain_length 8 scope) e) ∙ ap not (sym (reads-up-to (chain_length 8 scope) 7 e))

either-same : (a b c d : Bool) → a ≡ c → b ≡ d → a || b ≡ c || d
either-same a b c d p q = ap (λ x. x || b) p ∙ ap (λ x. c || x) q

long-there : (scope ps : Parts) → AreFound scope ps → any_too_long scope ps ≡ list_any not (value_answers (by_name (up_to 7 scope)) ps)
long-there scope no_parts h = refl
long-there scope (part m e ps) h = either-same _ _ _ _ (long-here scope m e h.0) (long-there scope ps h.1)

-- eight rounds find each chain that is too long
pub long-chains : (ps : Parts) → AreFound ps ps → any_too_long ps ps ≡ list_any not (after_rounds 8 (by_name (is_outside ps)) ps [])
long-chains ps h =
    long-there ps ps h
    ∙ ap (list_any not) (sym (round-is 7 ps (after_rounds 7 (by_name (is_outside ps)) ps []) (some-rounds-up ps 7 0 7 [] refl (begun ps))))
