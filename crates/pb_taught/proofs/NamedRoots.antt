-- Names of `vars`: which roots are the same, and what tests taught of their values.
use Rattle.std.proofs.Common.{◌≡◌, ℕ, ◌++◌, List, [], ◌∷◌, Bool, true, false, ◌&&◌, cond, Option, Some, None, option_map, String, Global, string_bytes, refl, sym, ap, ◌∙◌}
use Rattle.std.specs.Str.{bytes_eq}
use Rattle.pb_semantics.specs.Kind.{KindData}
use Rattle.pb_semantics.specs.Join.{join}
use Rattle.pb_semantics.proofs.Names.{same_name}
use Rattle.pb_language.specs.Expression.{Name, Expression, Root, Term, variable, alias, other, member}
use Rattle.pb_language.specs.Expansion.{expanded_root, root_named}
use Rattle.pb_language.specs.Same.{same_expression, same_root}
use Rattle.pb_language.specs.Scope.{Scope, Learned, nothing, taught, learned_kind, with_both_kinds, both_learned, resolved, resolved_term}
use Rattle.pb_language.proofs.Same.{own_expression, own_root}
use Rattle.pb_kind.specs.KindView.{kind_view}
use Rattle.pb_syntax.specs.ExprView.{root_view, term_view}
use Rattle.pb_syntax.specs.declared.expr.Root.{Root as WrittenRoot}
use Rattle.pb_syntax.specs.declared.expr.Root.TheVariants as roots
use Rattle.pb_syntax.specs.Aliases.{Trees}
use Rattle.pb_taught.specs.TaughtView.{alias_tree}
use Rattle.pb_taught.specs.TaughtView.{with_learned, learned_view}
use Rattle.pb_taught.specs.declared.scope.Learned.{Learned as MadeLearned}

different : (n m : Name) (t u : Option Expression) → bytes_eq n m ≡ false → same_root (root_named n t) (root_named m u) ≡ false
different n m None None h = h
different n m None (Some e) h = refl
different n m (Some e) None h = refl
different n m (Some e) (Some g) h = ap (λ b. b && same_expression e g) h

alike : (f : Trees) (n m : Name) → n ≡ m → same_root (root_named n (f n)) (root_named m (f m)) ≡ true
alike f n m h = ap (λ x. same_root (root_named n (f n)) (root_named x (f x))) (sym h) ∙ own_root (root_named n (f n))

same-step : (q : Bool) (f : Trees) (n m : Name) → bytes_eq n m ≡ q → same_root (root_named n (f n)) (root_named m (f m)) ≡ q
same-step true f n m h = alike f n m (same_name n m h)
same-step false f n m h = different n m (f n) (f m) h

-- a name has one tree
pub same_named : (f : Trees) (n m : Name) → same_root (root_named n (f n)) (root_named m (f m)) ≡ bytes_eq n m
same_named f n m = same-step (bytes_eq n m) f n m refl

pub named_other : (n x : Name) (t : Option Expression) (u : Term) → same_root (root_named n t) (other u x) ≡ false
named_other n x None u = refl
named_other n x (Some e) u = refl

pub other_named : (n x : Name) (t : Option Expression) (u : Term) → same_root (other u x) (root_named n t) ≡ false
other_named n x None u = refl
other_named n x (Some e) u = refl

pub named_member : (n g : Name) (i : ℕ) (t : Option Expression) → same_root (root_named n t) (member g i) ≡ false
named_member n g i None = refl
named_member n g i (Some e) = refl

pub member_named : (n g : Name) (i : ℕ) (t : Option Expression) → same_root (member g i) (root_named n t) ≡ false
member_named n g i None = refl
member_named n g i (Some e) = refl

pub resolved_named : (c : Scope) (n : Name) (t : Option Expression) → resolved c (root_named n t) ≡ root_named n t
resolved_named c n None = refl
resolved_named c n (Some e) = refl

-- roots that are written are the same where what they stand for is
pub same_expanded : (f : Trees) (r q : WrittenRoot) → same_root (expanded_root f (root_view r)) (expanded_root f (root_view q)) ≡ same_root (root_view r) (root_view q)
same_expanded f (roots.Variable n) (roots.Variable m) = same_named f (string_bytes n) (string_bytes m)
same_expanded f (roots.Variable n) (roots.Other t x) = named_other (string_bytes n) (string_bytes x) (f (string_bytes n)) (term_view t)
same_expanded f (roots.Variable n) (roots.Member m) = named_member (string_bytes n) (string_bytes m.group) m.place (f (string_bytes n))
same_expanded f (roots.Other t x) (roots.Variable m) = other_named (string_bytes m) (string_bytes x) (f (string_bytes m)) (term_view t)
same_expanded f (roots.Other t x) (roots.Other u y) = refl
same_expanded f (roots.Other t x) (roots.Member m) = refl
same_expanded f (roots.Member m) (roots.Variable n) = member_named (string_bytes n) (string_bytes m.group) m.place (f (string_bytes n))
same_expanded f (roots.Member m) (roots.Other t x) = refl
same_expanded f (roots.Member m) (roots.Member k) = refl

pub same_resolved : (c : Scope) (f : Trees) (r q : WrittenRoot)
    → same_root (resolved c (expanded_root f (root_view r))) (expanded_root f (root_view q)) ≡ same_root (resolved c (root_view r)) (root_view q)
same_resolved c f (roots.Variable n) q =
    ap (λ x. same_root x (expanded_root f (root_view q))) (resolved_named c (string_bytes n) (f (string_bytes n))) ∙ same_expanded f (roots.Variable n) q
same_resolved c f (roots.Other t x) (roots.Variable m) = other_named (string_bytes m) (string_bytes x) (f (string_bytes m)) (resolved_term c (term_view t))
same_resolved c f (roots.Other t x) (roots.Other u y) = refl
same_resolved c f (roots.Other t x) (roots.Member m) = refl
same_resolved c f (roots.Member m) q = same_expanded f (roots.Member m) q

-- where a host is named, a name of `vars` stays what it is
pub resolved-expanded : (c : Scope) (f : Trees) (r : Root) → expanded_root f (resolved c r) ≡ resolved c (expanded_root f r)
resolved-expanded c f (variable n) = sym (resolved_named c n (f n))
resolved-expanded c f (alias n e) = refl
resolved-expanded c f (other t x) = refl
resolved-expanded c f (member g n) = refl

pub alias_named : (n : Name) (t : Option Expression) → alias_tree (root_named n t) ≡ t
alias_named n None = refl
alias_named n (Some e) = refl

learned-step : (q : Bool) (n m : Name) (e : Expression) (t : Option Expression) (k : KindData) (l : Learned) → bytes_eq n m ≡ q → (q ≡ true → t ≡ Some e)
    → learned_kind n e (with_learned m t k l) ≡ cond q (Some k) (learned_kind n e l)
learned-step true n m e t k l h is =
    ap (λ u. learned_kind n e (with_learned m u k l)) (is refl)
    ∙ ap (λ b. cond (b && same_expression e e) (Some k) (learned_kind n e l)) h ∙ ap (λ b. cond b (Some k) (learned_kind n e l)) (own_expression e)
learned-step false n m e None k l h is = refl
learned-step false n m e (Some g) k l h is = ap (λ b. cond (b && same_expression e g) (Some k) (learned_kind n e l)) h

-- what was taught last of a name is found
pub learned-at : (f : Trees) (n : Name) (e : Expression) (l : MadeLearned) (ls : List MadeLearned) (q : Bool) → f n ≡ Some e → bytes_eq n (string_bytes l.name) ≡ q
    → learned_kind n e (learned_view f (l ∷ ls)) ≡ cond q (Some (kind_view l.kind)) (learned_kind n e (learned_view f ls))
learned-at f n e l ls q is h =
    learned-step q n (string_bytes l.name) e (f (string_bytes l.name)) (kind_view l.kind) (learned_view f ls) h
    (λ y. ap f (sym (same_name n (string_bytes l.name) (h ∙ y))) ∙ is)

-- the second after the first
abbrev pub append_learned : Learned → Learned → Learned
append_learned nothing m = m
append_learned (taught n e k l) m = taught n e k (append_learned l m)

append-with : (n : Name) (t : Option Expression) (k : KindData) (l m : Learned) → with_learned n t k (append_learned l m) ≡ append_learned (with_learned n t k l) m
append-with n None k l m = refl
append-with n (Some e) k l m = refl

learned-append : (f : Trees) (ls ms : List MadeLearned) → learned_view f (ls ++ ms) ≡ append_learned (learned_view f ls) (learned_view f ms)
learned-append f [] ms = refl
learned-append f (l ∷ ls) ms =
    ap (with_learned (string_bytes l.name) (f (string_bytes l.name)) (kind_view l.kind)) (learned-append f ls ms)
    ∙ append-with (string_bytes l.name) (f (string_bytes l.name)) (kind_view l.kind) (learned_view f ls) (learned_view f ms)

append-through : (l m p : Learned) → append_learned (append_learned l m) p ≡ append_learned l (append_learned m p)
append-through nothing m p = refl
append-through (taught n e k l) m p = ap (taught n e k) (append-through l m p)

pub append-nothing : (l : Learned) → append_learned l nothing ≡ l
append-nothing nothing = refl
append-nothing (taught n e k l) = ap (taught n e k) (append-nothing l)

-- one more behind those that there are
pub learned-turn : (f : Trees) (ls more : List MadeLearned) (l : MadeLearned) (m : Learned) → more ≡ ls ++ l ∷ []
    → append_learned (learned_view f more) m ≡ append_learned (learned_view f ls) (append_learned (learned_view f (l ∷ [])) m)
learned-turn f ls more l m is =
    ap (λ xs. append_learned (learned_view f xs) m) is ∙ ap (λ x. append_learned x m) (learned-append f ls (l ∷ []))
    ∙ append-through (learned_view f ls) (learned_view f (l ∷ [])) m

-- a copy of one
pub learned-copy : (f : Trees) (l p : MadeLearned) (ls : List MadeLearned) → string_bytes p.name ≡ string_bytes l.name → kind_view p.kind ≡ kind_view l.kind
    → learned_view f (l ∷ ls) ≡ append_learned (learned_view f (p ∷ [])) (learned_view f ls)
learned-copy f l p ls n k =
    ap (λ x. with_learned x (f x) (kind_view l.kind) (learned_view f ls)) (sym n) ∙ ap (λ x. with_learned (string_bytes p.name) (f (string_bytes p.name)) x (learned_view f ls)) (sym k)
    ∙ append-with (string_bytes p.name) (f (string_bytes p.name)) (kind_view p.kind) nothing (learned_view f ls)

-- of what one way taught, what the other taught too
both-taken : (n : Name) (t : Option Expression) (k j : KindData) (l m : Learned) → ((e : Expression) → t ≡ Some e → learned_kind n e m ≡ Some j)
    → both_learned (with_learned n t k l) m ≡ with_learned n t (join k j) (both_learned l m)
both-taken n None k j l m h = refl
both-taken n (Some e) k j l m h = ap (λ o. with_both_kinds n e k o (both_learned l m)) (h e refl)

both-left : (n : Name) (t : Option Expression) (k : KindData) (l m : Learned) → ((e : Expression) → t ≡ Some e → learned_kind n e m ≡ None)
    → both_learned (with_learned n t k l) m ≡ both_learned l m
both-left n None k l m h = refl
both-left n (Some e) k l m h = ap (λ o. with_both_kinds n e k o (both_learned l m)) (h e refl)

abbrev pub FindsTaught : List ℕ → Option KindData → List MadeLearned → Type 0
FindsTaught n o ms = (f : Trees) (e : Expression) → f n ≡ Some e → learned_kind n e (learned_view f ms) ≡ o

pub both-found : (f : Trees) (l p : MadeLearned) (j : KindData) (ls ms all more : List MadeLearned) → FindsTaught (string_bytes l.name) (Some j) ms
    → string_bytes p.name ≡ string_bytes l.name → kind_view p.kind ≡ join (kind_view l.kind) j → more ≡ all ++ p ∷ []
    → append_learned (learned_view f all) (both_learned (learned_view f (l ∷ ls)) (learned_view f ms)) ≡ append_learned (learned_view f more) (both_learned (learned_view f ls) (learned_view f ms))
both-found f l p j ls ms all more h n k is =
    let m = string_bytes l.name in
    let rest = both_learned (learned_view f ls) (learned_view f ms) in
    ap (append_learned (learned_view f all))
    (both-taken m (f m) (kind_view l.kind) j (learned_view f ls) (learned_view f ms) (h f)
    ∙ ap (λ x. with_learned x (f x) (join (kind_view l.kind) j) rest) (sym n) ∙ ap (λ x. with_learned (string_bytes p.name) (f (string_bytes p.name)) x rest) (sym k)
    ∙ append-with (string_bytes p.name) (f (string_bytes p.name)) (kind_view p.kind) nothing rest)
    ∙ sym (learned-turn f all more p rest is)

pub both-unfound : (f : Trees) (l : MadeLearned) (ls ms all : List MadeLearned) → FindsTaught (string_bytes l.name) None ms
    → append_learned (learned_view f all) (both_learned (learned_view f (l ∷ ls)) (learned_view f ms)) ≡ append_learned (learned_view f all) (both_learned (learned_view f ls) (learned_view f ms))
both-unfound f l ls ms all h =
    ap (append_learned (learned_view f all)) (both-left (string_bytes l.name) (f (string_bytes l.name)) (kind_view l.kind) (learned_view f ls) (learned_view f ms) (h f))
