-- Ways of hosts with that of one host more: what they come to.
use Rattle.std.proofs.Common.{◌≡◌, ℕ, ◌+◌, List, [], ◌∷◌, ◌++◌, Bool, true, false, cond, ◌&&◌, Option, Some, None, refl, sym, ap, ◌∙◌, arith}
use Rattle.std.specs.Prelude.{nat_lt}
use Rattle.std.proofs.Math.Bool.{and-true}
use Rattle.std.proofs.lemmas.Bool.Decides.{nat_tests}
use Rattle.pb_language.specs.Program.{Inventory, Program}
use Rattle.pb_language.specs.Scope.{Later, View, view_of}
use Rattle.pb_language.specs.Tables.{HostWalk, are_settled, budget_of, hosts_walked, plays_below, plays_calls}
use Rattle.pb_language.specs.Verdict.{Refusal, earlier, first_offence, plays_offence}
use Rattle.pb_language.specs.World.{HostVariables}
use Rattle.pb_language.proofs.Accepted.{earlier_last}
use Rattle.pb_walks.specs.Agree.{AllHostsAgree, HostsAgree}
use Rattle.pb_walks.specs.Notified.{HostsNameHandlers, PlaysNameHandlers}
use Rattle.pb_tables.specs.Found.{host_walk}

-- of three offences the first, whichever two come first
chosen : (sr rq sq : Bool) (q r s : Refusal) → (sr ≡ true → rq ≡ true → sq ≡ true) → (sr ≡ false → rq ≡ false → sq ≡ false)
    → cond sr (cond sq (Some s) (Some q)) (cond rq (Some r) (Some q)) ≡ cond rq (cond sr (Some s) (Some r)) (cond sq (Some s) (Some q))
chosen true true sq q r s up down = ap (λ b. cond b (Some s) (Some q)) (up refl refl)
chosen true false sq q r s up down = refl
chosen false true sq q r s up down = refl
chosen false false sq q r s up down = sym (ap (λ b. cond b (Some s) (Some q)) (down refl refl))

in_second : (b : Bool) (q s r : Refusal) → earlier (Some q) (cond b (Some s) (Some r)) ≡ cond b (earlier (Some q) (Some s)) (earlier (Some q) (Some r))
in_second true q s r = refl
in_second false q s r = refl

in_first : (b : Bool) (r q s : Refusal) → earlier (cond b (Some r) (Some q)) (Some s) ≡ cond b (earlier (Some r) (Some s)) (earlier (Some q) (Some s))
in_first true r q s = refl
in_first false r q s = refl

less_through : (a b c : ℕ) → nat_lt a b ≡ true → nat_lt b c ≡ true → nat_lt a c ≡ true
less_through a b c e f = grind (arith, nat_tests, e, f)

least_through : (a b c : ℕ) → nat_lt a b ≡ false → nat_lt b c ≡ false → nat_lt a c ≡ false
least_through a b c e f = grind (arith, nat_tests, e, f)

pub earlier_through : (a b c : Option Refusal) → earlier a (earlier b c) ≡ earlier (earlier a b) c
earlier_through None b c = refl
earlier_through (Some q) None c = refl
earlier_through (Some q) (Some r) None = sym (earlier_last (earlier (Some q) (Some r)))
earlier_through (Some q) (Some r) (Some s) =
    in_second (nat_lt s.line r.line) q s r
    ∙ chosen (nat_lt s.line r.line) (nat_lt r.line q.line) (nat_lt s.line q.line) q r s (less_through s.line r.line q.line) (least_through s.line r.line q.line)
    ∙ sym (in_first (nat_lt r.line q.line) r q s)

pub offence_joined : (ws : List HostWalk) (w : HostWalk) → first_offence (ws ++ w ∷ []) ≡ earlier (first_offence ws) (plays_offence w.host w.plays)
offence_joined [] w = earlier_last (plays_offence w.host w.plays)
offence_joined (v ∷ ws) w = ap (earlier (plays_offence v.host v.plays)) (offence_joined ws w) ∙ earlier_through (plays_offence v.host v.plays) (first_offence ws) (plays_offence w.host w.plays)

pub budget_joined : (ws : List HostWalk) (w : HostWalk) → budget_of (ws ++ w ∷ []) ≡ budget_of ws + plays_calls w.plays
budget_joined [] w = omega arith
budget_joined (v ∷ ws) w = let rest = budget_joined ws w in omega (arith, rest)

and_through : (a b c : Bool) → a && (b && c) ≡ (a && b) && c
and_through true b c = refl
and_through false b c = refl

pub settled_joined : (ws : List HostWalk) (w : HostWalk) (vs : List View) → are_settled (ws ++ w ∷ []) vs ≡ are_settled ws vs && plays_below w.plays (view_of w.host vs)
settled_joined [] w vs = and-true (plays_below w.plays (view_of w.host vs))
settled_joined (v ∷ ws) w vs =
    ap (λ b. plays_below v.plays (view_of v.host vs) && b) (settled_joined ws w vs)
    ∙ and_through (plays_below v.plays (view_of v.host vs)) (are_settled ws vs) (plays_below w.plays (view_of w.host vs))

pub walked_joined : (i : Inventory) (ps : Program) (vs : List View) (ls : List (List Later)) (xs : List HostVariables) (x : HostVariables)
    → hosts_walked i vs ps ls (xs ++ x ∷ []) ≡ hosts_walked i vs ps ls xs ++ host_walk i ps vs ls x ∷ []
walked_joined i ps vs ls [] x = refl
walked_joined i ps vs ls (y ∷ xs) x = ap (λ ws. host_walk i ps vs ls y ∷ ws) (walked_joined i ps vs ls xs x)

pub agreeing_joined : (ws us : List HostWalk) (w u : HostWalk) → AllHostsAgree ws us → HostsAgree w u → AllHostsAgree (ws ++ w ∷ []) (us ++ u ∷ [])
agreeing_joined [] [] w u a b = (b, tt)
agreeing_joined [] (y ∷ us) w u a b = absurd a
agreeing_joined (v ∷ ws) [] w u a b = absurd a
agreeing_joined (v ∷ ws) (y ∷ us) w u a b = (a.0, agreeing_joined ws us w u a.1 b)

pub named_apart : (ws : List HostWalk) (w : HostWalk) → HostsNameHandlers (ws ++ w ∷ []) → HostsNameHandlers ws × PlaysNameHandlers w.plays
named_apart [] w h = (tt, h.0)
named_apart (v ∷ ws) w h = let rest = named_apart ws w h.1 in ((h.0, rest.0), rest.1)
