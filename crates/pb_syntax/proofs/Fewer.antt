-- Each form of the grammar leaves fewer tokens than it begins with.
use Rattle.std.proofs.Common.{◌≡◌, ℕ, zero, suc, ◌<◌, ◌≤◌, List, [], ◌∷◌, Bool, true, false, cond, codes, Option, Some, None, subst, arith}
use Rattle.std.specs.Option.{option_map}
use Rattle.std.specs.Str.{bytes_eq}
use Rattle.pb_language.specs.Expression.{Name, Expression, Expressions, Term, named_host, negation, expression, no_expressions, group_member, hostvars_alone, path, member, variable, conjunction, disjunction, list_of}
use Rattle.pb_language.specs.Grammar.{Reading, reading, Reader, Deeper, before, before_some, with_tree, then_on, letters_of, valid, Next, no_step, broken_step, a_step, step_to, next_step, go_on, steps_of, unbracketed, place_of, in_group, term_named, group_term, name_term, term_of, dotted_host, bracketed_host, host_path, host_steps, hostvars_of, group_path, path_of, closed, literal_of, operand_at, filter_named, filter_with, filter_of, filtered, operand_of, test_named, test_of, tested, related, relation_of, negation_of, Link, and_link, or_link, comma_link, behind_link, chain_on, chain_of, joined, count_of, conjunction_of, disjunction_of, closed_items, items_of, deeper}
use Rattle.pb_language.specs.Tokens.{Tokens, finish, unreadable, token, name, word, sign, digits, quoted, and_word, or_word, not_word, in_word, is_word, opening, closing, dot, compares, differs, bar, opening_bracket, closing_bracket, comma}

-- where something is read, fewer tokens than that are left
abbrev pub Leaves : {T : Type 0} → ℕ → Option (Reading T) → Type 0
Leaves n None = Unit {0}
Leaves n (Some (reading e ts)) = suc (count_of ts) ≤ n

more : {T : Type 0} → (m n : ℕ) (r : Option (Reading T)) → m ≤ n → Leaves m r → Leaves n r
more m n None le h = tt
more m n (Some (reading e ts)) le h = omega (arith, le, h)

one_more : {T : Type 0} → (n : ℕ) (r : Option (Reading T)) → Leaves n r → Leaves (suc n) r
one_more n r h = more n (suc n) r (omega arith) h

leaves-before : {T : Type 0} → (e : T) (ts : Tokens) → Leaves (suc (count_of ts)) (before e ts)
leaves-before e unreadable = tt
leaves-before e finish = omega arith
leaves-before e (token t ts) = omega arith

leaves-some : {T : Type 0} → (o : Option T) (ts : Tokens) → Leaves (suc (count_of ts)) (before_some o ts)
leaves-some None ts = tt
leaves-some (Some e) ts = leaves-before e ts

leaves-tree : {S T : Type 0} → (n : ℕ) (f : S → T) (r : Option (Reading S)) → Leaves n r → Leaves n (with_tree f r)
leaves-tree n f None h = tt
leaves-tree n f (Some (reading e ts)) h = h

leaves-then : {S T : Type 0} → (n : ℕ) (r : Option (Reading S)) (f : S → Tokens → Option (Reading T)) → Leaves n r → ((e : S) (ts : Tokens) → Leaves (suc (count_of ts)) (f e ts)) → Leaves n (then_on r f)
leaves-then n None f h g = tt
leaves-then n (Some (reading e ts)) f h g = more (suc (count_of ts)) n (f e ts) h (g e ts)

leaves-either : {T : Type 0} → (n : ℕ) (b : Bool) (r s : Option (Reading T)) → Leaves n r → Leaves n s → Leaves n (cond b r s)
leaves-either n true r s h g = h
leaves-either n false r s h g = g

-- steps
abbrev Passes : ℕ → Next → Type 0
Passes n (a_step m ts) = count_of ts ≤ n
Passes n x = Unit {0}

passes-to : (n : ℕ) (o : Option Name) (ts : Tokens) → count_of ts ≤ n → Passes n (step_to o ts)
passes-to n None ts h = tt
passes-to n (Some m) ts h = h

passes-next : (ts : Tokens) → Passes (count_of ts) (next_step ts)
passes-next unreadable = tt
passes-next (token (sign dot) (token t ts)) = passes-to (suc (suc (count_of ts))) (letters_of t) ts (omega arith)
passes-next (token (sign dot) ts) = tt
passes-next (token (sign opening_bracket) unreadable) = tt
passes-next (token (sign opening_bracket) (token (quoted w) (token (sign closing_bracket) ts))) = passes-to (suc (suc (suc (count_of ts)))) (valid w) ts (omega arith)
passes-next (token (sign opening_bracket) (token (quoted w) ts)) = tt
passes-next (token (sign opening_bracket) ts) = tt
passes-next ts = tt

leaves-go : (x : Next) (ts : Tokens) (steps : Tokens → Option (Reading (List Name))) → Passes (count_of ts) x → ((us : Tokens) → Leaves (suc (count_of us)) (steps us)) → Leaves (suc (count_of ts)) (go_on x ts steps)
leaves-go no_step ts steps h g = omega arith
leaves-go broken_step ts steps h g = tt
leaves-go (a_step m us) ts steps h g = leaves-tree (suc (count_of ts)) (λ ns. m ∷ ns) (steps us) (more (suc (count_of us)) (suc (count_of ts)) (steps us) (omega (arith, h)) (g us))

leaves-steps : (n : ℕ) (ts : Tokens) → Leaves (suc (count_of ts)) (steps_of n ts)
leaves-steps zero ts = leaves-go (next_step ts) ts (λ us. None) (passes-next ts) (λ us. tt)
leaves-steps (suc n) ts = leaves-go (next_step ts) ts (steps_of n) (passes-next ts) (λ us. leaves-steps n us)

leaves-unbracketed : (n : ℕ) (r : Option (Reading (List Name))) → Leaves n r → Leaves n (unbracketed r)
leaves-unbracketed n (Some (reading ns (token (sign opening_bracket) ts))) h = tt
leaves-unbracketed n r h = h

-- paths
leaves-group : {T : Type 0} → (make : Name → ℕ → T) (ns : List Name) (ts : Tokens) → Leaves (suc (count_of ts)) (in_group make ns ts)
leaves-group make (g ∷ []) (token (digits k) (token (sign closing_bracket) ts)) =
    more (suc (count_of ts)) (suc (suc (suc (count_of ts)))) (before (make g (place_of k)) ts) (omega arith) (leaves-before (make g (place_of k)) ts)
leaves-group make ns ts = tt

leaves-group_term : (n : ℕ) (r : Option (Reading (List Name))) → Leaves n r → Leaves n (group_term r)
leaves-group_term n (Some (reading ns (token (sign opening_bracket) ts))) h = more (suc (count_of ts)) n (in_group (λ g k. group_member g k) ns ts) (omega (arith, h)) (leaves-group (λ g k. group_member g k) ns ts)
leaves-group_term n r h = tt

leaves-name_term : (m : Name) (ts : Tokens) → Leaves (suc (count_of ts)) (name_term m ts)
leaves-name_term m ts =
    leaves-either (suc (count_of ts)) (bytes_eq m (codes "groups")) (group_term (steps_of 16 ts)) (before_some (term_named m) ts) (leaves-group_term (suc (count_of ts)) (steps_of 16 ts) (leaves-steps 16 ts)) (leaves-some (term_named m) ts)

leaves-term : (ts : Tokens) → Leaves (count_of ts) (term_of ts)
leaves-term (token (quoted w) ts) = leaves-some (option_map (λ w. named_host w) (valid w)) ts
leaves-term (token (name n) ts) = leaves-name_term n ts
leaves-term ts = tt

leaves-dotted : (ts : Tokens) → Leaves (suc (count_of ts)) (dotted_host ts)
leaves-dotted (token t ts) = one_more (suc (count_of ts)) (before_some (option_map (λ n. named_host n) (letters_of t)) ts) (leaves-some (option_map (λ n. named_host n) (letters_of t)) ts)
leaves-dotted ts = tt

leaves-bracketed : (n : ℕ) (r : Option (Reading Term)) → Leaves n r → Leaves n (bracketed_host r)
leaves-bracketed n (Some (reading h (token (sign closing_bracket) ts))) g = more (suc (count_of ts)) n (before h ts) (omega (arith, g)) (leaves-before h ts)
leaves-bracketed n r g = tt

leaves-host_steps : (h : Term) (ts : Tokens) → Leaves (suc (count_of ts)) (host_steps h ts)
leaves-host_steps h ts = leaves-tree (suc (count_of ts)) (host_path h) (unbracketed (steps_of 15 ts)) (leaves-unbracketed (suc (count_of ts)) (steps_of 15 ts) (leaves-steps 15 ts))

leaves-hostvars : (ts : Tokens) → Leaves (suc (count_of ts)) (hostvars_of ts)
leaves-hostvars (token (sign dot) ts) = one_more (suc (count_of ts)) (then_on (dotted_host ts) host_steps) (leaves-then (suc (count_of ts)) (dotted_host ts) host_steps (leaves-dotted ts) leaves-host_steps)
leaves-hostvars (token (sign opening_bracket) ts) =
    more (count_of ts) (suc (suc (count_of ts))) (then_on (bracketed_host (term_of ts)) host_steps) (omega arith)
    (leaves-then (count_of ts) (bracketed_host (term_of ts)) host_steps (leaves-bracketed (count_of ts) (term_of ts) (leaves-term ts)) leaves-host_steps)
leaves-hostvars ts = leaves-before (hostvars_alone None) ts

leaves-group_path : (n : ℕ) (r : Option (Reading (List Name))) → Leaves n r → Leaves n (group_path r)
leaves-group_path n (Some (reading ns (token (sign opening_bracket) ts))) h = more (suc (count_of ts)) n (in_group (λ g k. path (member g k) []) ns ts) (omega (arith, h)) (leaves-group (λ g k. path (member g k) []) ns ts)
leaves-group_path n r h = leaves-tree n (λ ns. path (variable (codes "groups")) ns) r h

leaves-path : (m : Name) (ts : Tokens) → Leaves (suc (count_of ts)) (path_of m ts)
leaves-path m ts =
    let steps = leaves-steps 16 ts in
    leaves-either (suc (count_of ts)) (bytes_eq m (codes "hostvars")) (hostvars_of ts) _ (leaves-hostvars ts)
    (leaves-either (suc (count_of ts)) (bytes_eq m (codes "groups")) (group_path (steps_of 16 ts)) (with_tree (λ ns. path (variable m) ns) (unbracketed (steps_of 16 ts)))
    (leaves-group_path (suc (count_of ts)) (steps_of 16 ts) steps)
    (leaves-tree (suc (count_of ts)) (λ ns. path (variable m) ns) (unbracketed (steps_of 16 ts)) (leaves-unbracketed (suc (count_of ts)) (steps_of 16 ts) steps)))

-- operands
leaves-closed : (n : ℕ) (r : Option (Reading Expression)) → Leaves n r → Leaves n (closed r)
leaves-closed n (Some (reading e (token (sign closing) ts))) h = more (suc (count_of ts)) n (before e ts) (omega (arith, h)) (leaves-before e ts)
leaves-closed n r h = tt

abbrev Shrinks : {T : Type 0} → (Tokens → Option (Reading T)) → Type 0
Shrinks f = (ts : Tokens) → Leaves (count_of ts) (f ts)

record AllShrink (d : Deeper) : Type 0 where
  whole : Shrinks d.whole
  negated : Shrinks d.negated
  items : Shrinks d.items

leaves-bare : (d : Deeper) → AllShrink d → Shrinks (operand_at d)
leaves-bare d h finish = tt
leaves-bare d h unreadable = tt
leaves-bare d h (token (sign opening) ts) = one_more (count_of ts) (closed (d.whole ts)) (leaves-closed (count_of ts) (d.whole ts) (h.whole ts))
leaves-bare d h (token (sign opening_bracket) ts) = one_more (count_of ts) (with_tree (λ es. list_of es) (d.items ts)) (leaves-tree (count_of ts) (λ es. list_of es) (d.items ts) (h.items ts))
leaves-bare d h (token (name n) ts) = leaves-path n ts
leaves-bare d h (token t ts) = leaves-some (literal_of t) ts

leaves-filter : (d : Deeper) → AllShrink d → (e : Expression) → Shrinks (filter_of d e)
leaves-filter d h e (token (name f) (token (sign opening) ts)) =
    more (count_of ts) (suc (suc (count_of ts))) (then_on (closed (d.whole ts)) (λ a us. before_some (filter_with f e a) us)) (omega arith)
    (leaves-then (count_of ts) (closed (d.whole ts)) (λ a us. before_some (filter_with f e a) us) (leaves-closed (count_of ts) (d.whole ts) (h.whole ts)) (λ a us. leaves-some (filter_with f e a) us))
leaves-filter d h e (token (name f) ts) = leaves-some (filter_named f e) ts
leaves-filter d h e ts = tt

leaves-filtered : (d : Deeper) → AllShrink d → (n : ℕ) (e : Expression) (ts : Tokens) → Leaves (suc (count_of ts)) (filtered d n e ts)
leaves-filtered d h zero e ts = omega arith
leaves-filtered d h (suc n) e (token (sign bar) ts) =
    more (count_of ts) (suc (suc (count_of ts))) (then_on (filter_of d e ts) (filtered d n)) (omega arith)
    (leaves-then (count_of ts) (filter_of d e ts) (filtered d n) (leaves-filter d h e ts) (λ x us. leaves-filtered d h n x us))
leaves-filtered d h (suc n) e ts = omega arith

leaves-operand : (d : Deeper) → AllShrink d → Shrinks (operand_of d)
leaves-operand d h ts = leaves-then (count_of ts) (operand_at d ts) (filtered d (count_of ts)) (leaves-bare d h ts) (λ e us. leaves-filtered d h (count_of ts) e us)

-- relations
leaves-test : (e : Expression) → Shrinks (test_of e)
leaves-test e (token (name t) ts) = leaves-some (test_named t e) ts
leaves-test e ts = tt

leaves-tested : (e : Expression) → Shrinks (tested e)
leaves-tested e (token (word not_word n) ts) = one_more (count_of ts) (with_tree (λ e. negation e) (test_of e ts)) (leaves-tree (count_of ts) (λ e. negation e) (test_of e ts) (leaves-test e ts))
leaves-tested e ts = leaves-test e ts

leaves-right : (n : ℕ) (f : Expression → Expression) (operand : Reader) → Shrinks operand → (ts : Tokens) → count_of ts ≤ n → Leaves n (with_tree f (operand ts))
leaves-right n f operand h ts le = leaves-tree n f (operand ts) (more (count_of ts) n (operand ts) le (h ts))

leaves-related : (operand : Reader) → Shrinks operand → (a : Expression) (ts : Tokens) → Leaves (suc (count_of ts)) (related operand a ts)
leaves-related operand h a (token (sign (compares c)) ts) = leaves-right (suc (suc (count_of ts))) _ operand h ts (omega arith)
leaves-related operand h a (token (sign differs) ts) = leaves-right (suc (suc (count_of ts))) _ operand h ts (omega arith)
leaves-related operand h a (token (word in_word n) ts) = leaves-right (suc (suc (count_of ts))) _ operand h ts (omega arith)
leaves-related operand h a (token (word not_word n) (token (word in_word m) ts)) = leaves-right (suc (suc (suc (count_of ts)))) _ operand h ts (omega arith)
leaves-related operand h a (token (word not_word n) ts) = tt
leaves-related operand h a (token (word is_word n) ts) = more (count_of ts) (suc (suc (count_of ts))) (tested a ts) (omega arith) (leaves-tested a ts)
leaves-related operand h a ts = omega arith

leaves-relation : (d : Deeper) → AllShrink d → Shrinks (relation_of d)
leaves-relation d h ts = leaves-then (count_of ts) (operand_of d ts) (related (operand_of d)) (leaves-operand d h ts) (leaves-related (operand_of d) (leaves-operand d h))

leaves-negation : (d : Deeper) → AllShrink d → Shrinks (negation_of d)
leaves-negation d h (token (word not_word n) ts) = leaves-right (suc (count_of ts)) (λ e. negation e) d.negated h.negated ts (omega arith)
leaves-negation d h ts = leaves-relation d h ts

-- chains
leaves-first : (n : ℕ) (e : Expression) (rest : Tokens → Option (Reading Expressions)) → Shrinks rest → (ts : Tokens) → count_of ts ≤ n → Leaves n (with_tree (λ es. expression e es) (rest ts))
leaves-first n e rest h ts le = leaves-tree n (λ es. expression e es) (rest ts) (more (count_of ts) n (rest ts) le (h ts))

leaves-on : (l : Link) (e : Expression) (rest : Tokens → Option (Reading Expressions)) → Shrinks rest → (ts : Tokens) → Leaves (suc (count_of ts)) (chain_on e ts (behind_link l ts) rest)
leaves-on and_link e rest h (token (word and_word n) ts) = leaves-first (suc (suc (count_of ts))) e rest h ts (omega arith)
leaves-on or_link e rest h (token (word or_word n) ts) = leaves-first (suc (suc (count_of ts))) e rest h ts (omega arith)
leaves-on comma_link e rest h (token (sign comma) ts) = leaves-first (suc (suc (count_of ts))) e rest h ts (omega arith)
leaves-on l e rest h ts = omega arith

leaves-chain : (l : Link) (f : Reader) → Shrinks f → (n : ℕ) (ts : Tokens) → Leaves (count_of ts) (chain_of l f n ts)
leaves-chain l f h zero ts = tt
leaves-chain l f h (suc n) ts =
    leaves-then (count_of ts) (f ts) (λ e us. chain_on e us (behind_link l us) (chain_of l f n)) (h ts)
    (λ e us. leaves-on l e (chain_of l f n) (λ vs. leaves-chain l f h n vs) us)

leaves-conjunction : (d : Deeper) → AllShrink d → Shrinks (conjunction_of d)
leaves-conjunction d h ts =
    leaves-tree (count_of ts) (joined (λ es. conjunction es)) (chain_of and_link (negation_of d) (count_of ts) ts) (leaves-chain and_link (negation_of d) (leaves-negation d h) (count_of ts) ts)

leaves-disjunction : (d : Deeper) → AllShrink d → Shrinks (disjunction_of d)
leaves-disjunction d h ts =
    leaves-tree (count_of ts) (joined (λ es. disjunction es)) (chain_of or_link (conjunction_of d) (count_of ts) ts) (leaves-chain or_link (conjunction_of d) (leaves-conjunction d h) (count_of ts) ts)

leaves-closed_items : (n : ℕ) (r : Option (Reading Expressions)) → Leaves n r → Leaves n (closed_items r)
leaves-closed_items n (Some (reading es (token (sign closing_bracket) ts))) h = more (suc (count_of ts)) n (before es ts) (omega (arith, h)) (leaves-before es ts)
leaves-closed_items n r h = tt

leaves-chained : (whole : Reader) → Shrinks whole → (ts : Tokens) → Leaves (count_of ts) (closed_items (chain_of comma_link whole (count_of ts) ts))
leaves-chained whole h ts = leaves-closed_items (count_of ts) (chain_of comma_link whole (count_of ts) ts) (leaves-chain comma_link whole h (count_of ts) ts)

leaves-items : (whole : Reader) → Shrinks whole → Shrinks (items_of whole)
leaves-items whole h (token (sign closing_bracket) ts) = leaves-before no_expressions ts
leaves-items whole h ts = leaves-chained whole h ts

-- at each depth
leaves-deeper : (n : ℕ) → AllShrink (deeper n)
leaves-deeper zero = record { whole = λ ts. tt; negated = λ ts. tt; items = λ ts. tt }
leaves-deeper (suc n) =
    let h = leaves-deeper n in
    record { whole = leaves-disjunction (deeper n) h; negated = leaves-negation (deeper n) h; items = leaves-items (disjunction_of (deeper n)) (leaves-disjunction (deeper n) h) }

leaves-fewer : {T : Type 0} → (n : ℕ) (r : Option (Reading T)) (e : T) (ts : Tokens) → Leaves n r → r ≡ Some (reading e ts) → count_of ts < n
leaves-fewer n r e ts h is = subst (Leaves n) is h

pub negation-fewer : (n : ℕ) (ts : Tokens) (e : Expression) (us : Tokens) → negation_of (deeper n) ts ≡ Some (reading e us) → count_of us < count_of ts
negation-fewer n ts e us h = leaves-fewer (count_of ts) (negation_of (deeper n) ts) e us (leaves-negation (deeper n) (leaves-deeper n) ts) h

pub conjunction-fewer : (n : ℕ) (ts : Tokens) (e : Expression) (us : Tokens) → conjunction_of (deeper n) ts ≡ Some (reading e us) → count_of us < count_of ts
conjunction-fewer n ts e us h = leaves-fewer (count_of ts) (conjunction_of (deeper n) ts) e us (leaves-conjunction (deeper n) (leaves-deeper n) ts) h

pub disjunction-fewer : (n : ℕ) (ts : Tokens) (e : Expression) (us : Tokens) → disjunction_of (deeper n) ts ≡ Some (reading e us) → count_of us < count_of ts
disjunction-fewer n ts e us h = leaves-fewer (count_of ts) (disjunction_of (deeper n) ts) e us (leaves-disjunction (deeper n) (leaves-deeper n) ts) h

pub bare-fewer : (n : ℕ) (ts : Tokens) (e : Expression) (us : Tokens) → operand_at (deeper n) ts ≡ Some (reading e us) → count_of us < count_of ts
bare-fewer n ts e us h = leaves-fewer (count_of ts) (operand_at (deeper n) ts) e us (leaves-bare (deeper n) (leaves-deeper n) ts) h

pub filter-fewer : (n : ℕ) (a : Expression) (ts : Tokens) (e : Expression) (us : Tokens) → filter_of (deeper n) a ts ≡ Some (reading e us) → count_of us < count_of ts
filter-fewer n a ts e us h = leaves-fewer (count_of ts) (filter_of (deeper n) a ts) e us (leaves-filter (deeper n) (leaves-deeper n) a ts) h
