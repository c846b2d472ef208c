-- What the productions derive is read by the grammar's readers.
use Rattle.std.proofs.Common.{◌≡◌, ℕ, zero, suc, ◌+◌, ◌≤◌, List, [], ◌∷◌, ◌++◌, length, Bool, true, false, cond, Option, Some, None, option_map, codes, refl, sym, ap, ◌∙◌, arith}
use Rattle.std.proofs.lemmas.List.{length-append}
use Rattle.std.proofs.lemmas.Option.{none-some, same_Some}
use Rattle.std.specs.Str.{is_utf8, bytes_eq}
use Rattle.pb_language.specs.Derivations.{Derivation, Nested, Letters, letters_of_name, letters_of_word, Steps, no_steps, dotted, bracketed, place, HostTerm, a_host_name, a_named_term, a_group_term, HostStep, a_dotted_host, a_bracketed_host, Path, own_path, group_place, no_host, hosts_path, Operand, a_literal, a_path, enclosed, a_list, Filters, no_filter, filter, filter_given, Filtered, an_operand, Relation, one_operand, are_compared, are_different, is_in, is_not_in, passes, fails, Negation, a_relation, a_negation, Links, an_and, an_or, a_comma, Chain, last, more, Joined, alone, several, Conjunction, Disjunction, Items, no_items, some_items, nested, Derives, with_token, listed, DerivedAreTrees}
use Rattle.pb_language.specs.Expression.{Name, Comparison, equal, Term, named_host, Expression, path, hostvars_alone, negation, conjunction, disjunction, comparison, list_of, variable, member, Expressions, no_expressions, expression}
use Rattle.pb_language.specs.Grammar as grammar
use Rattle.pb_language.specs.Grammar.{Reading, reading, Reader, Deeper, before, with_tree, then_on, before_some, no_step, letters_of, valid, step_to, next_step, go_on, steps_of, unbracketed, place_of, in_group, term_named, group_term, term_of, host_path, host_steps, hostvars_of, group_path, path_of, closed, literal_of, operand_at, filter_named, filter_with, filter_of, filtered, count_of, operand_of, test_named, contained, related, relation_of, negation_of, Link, and_link, or_link, comma_link, behind_link, chain_on, chain_of, joined, conjunction_of, disjunction_of, closed_items, items_of, deeper, all_of}
use Rattle.pb_language.specs.Tokens.{Token, Tokens, finish, unreadable, token, name, word, digits, minus, quoted, sign, and_word, or_word, not_word, in_word, is_word, opening, closing, compares, differs, bar, opening_bracket, closing_bracket, comma, tokens_of}
use Rattle.pb_language.proofs.Derived.{put, put-append, same_name}

-- what may follow the whole, what is between `or`s, what is between `and`s, an operand with its
-- filters, and an operand
data Closes : Tokens → Type 0 where
  at_finish : Closes finish
  at_closing : {us : Tokens} → Closes (token (sign closing) us)
  at_bracket : {us : Tokens} → Closes (token (sign closing_bracket) us)
  at_comma : {us : Tokens} → Closes (token (sign comma) us)

data ClosesAnd : Tokens → Type 0 where
  at_end : {us : Tokens} → Closes us → ClosesAnd us
  at_or : {n : Name} {us : Tokens} → ClosesAnd (token (word or_word n) us)

data ClosesNot : Tokens → Type 0 where
  at_chain : {us : Tokens} → ClosesAnd us → ClosesNot us
  at_and : {n : Name} {us : Tokens} → ClosesNot (token (word and_word n) us)

data ClosesFilters : Tokens → Type 0 where
  at_not : {us : Tokens} → ClosesNot us → ClosesFilters us
  at_compares : {c : Comparison} {us : Tokens} → ClosesFilters (token (sign (compares c)) us)
  at_differs : {us : Tokens} → ClosesFilters (token (sign differs) us)
  at_in : {n : Name} {us : Tokens} → ClosesFilters (token (word in_word n) us)
  at_not_in : {n : Name} {us : Tokens} → ClosesFilters (token (word not_word n) us)
  at_is : {n : Name} {us : Tokens} → ClosesFilters (token (word is_word n) us)

data ClosesOperand : Tokens → Type 0 where
  at_filters : {us : Tokens} → ClosesFilters us → ClosesOperand us
  at_bar : {us : Tokens} → ClosesOperand (token (sign bar) us)

-- a tree that is derived is read, before what may follow it
abbrev Complete : Reader → Derivation → (Tokens → Type 0) → Type 0
Complete f D C = (xs : List Token) (e : Expression) (us : Tokens) → D xs e → C us → f (put xs us) ≡ Some (reading e us)

abbrev NonEmpty : Derivation → Type 0
NonEmpty D = (xs : List Token) (e : Expression) → D xs e → 1 ≤ length xs

-- nothing of an operand goes on there
record Stops (us : Tokens) : Type 0 where
  pub ready : (e : Expression) → before e us ≡ Some (reading e us)
  pub ready_items : (es : Expressions) → before es us ≡ Some (reading es us)
  pub steps : next_step us ≡ no_step
  pub bare : (ns : List Name) → unbracketed (Some (reading ns us)) ≡ Some (reading ns us)
  pub group : (ns : List Name) → group_path (Some (reading ns us)) ≡ Some (reading (path (variable (codes "groups")) ns) us)
  pub host : hostvars_of us ≡ Some (reading (hostvars_alone None) us)
  pub filter : (d : Deeper) (f : Name) (e : Expression) → filter_of d e (token (name f) us) ≡ before_some (filter_named f e) us

stops : (us : Tokens) → ClosesOperand us → Stops us
stops us (at_filters (at_not (at_chain (at_end at_finish)))) = record { ready = λ e. refl; ready_items = λ es. refl; steps = refl; bare = λ ns. refl; group = λ ns. refl; host = refl; filter = λ d f e. refl }
stops us (at_filters (at_not (at_chain (at_end at_closing)))) = record { ready = λ e. refl; ready_items = λ es. refl; steps = refl; bare = λ ns. refl; group = λ ns. refl; host = refl; filter = λ d f e. refl }
stops us (at_filters (at_not (at_chain (at_end at_bracket)))) = record { ready = λ e. refl; ready_items = λ es. refl; steps = refl; bare = λ ns. refl; group = λ ns. refl; host = refl; filter = λ d f e. refl }
stops us (at_filters (at_not (at_chain (at_end at_comma)))) = record { ready = λ e. refl; ready_items = λ es. refl; steps = refl; bare = λ ns. refl; group = λ ns. refl; host = refl; filter = λ d f e. refl }
stops us (at_filters (at_not (at_chain at_or))) = record { ready = λ e. refl; ready_items = λ es. refl; steps = refl; bare = λ ns. refl; group = λ ns. refl; host = refl; filter = λ d f e. refl }
stops us (at_filters (at_not at_and)) = record { ready = λ e. refl; ready_items = λ es. refl; steps = refl; bare = λ ns. refl; group = λ ns. refl; host = refl; filter = λ d f e. refl }
stops us (at_filters at_compares) = record { ready = λ e. refl; ready_items = λ es. refl; steps = refl; bare = λ ns. refl; group = λ ns. refl; host = refl; filter = λ d f e. refl }
stops us (at_filters at_differs) = record { ready = λ e. refl; ready_items = λ es. refl; steps = refl; bare = λ ns. refl; group = λ ns. refl; host = refl; filter = λ d f e. refl }
stops us (at_filters at_in) = record { ready = λ e. refl; ready_items = λ es. refl; steps = refl; bare = λ ns. refl; group = λ ns. refl; host = refl; filter = λ d f e. refl }
stops us (at_filters at_not_in) = record { ready = λ e. refl; ready_items = λ es. refl; steps = refl; bare = λ ns. refl; group = λ ns. refl; host = refl; filter = λ d f e. refl }
stops us (at_filters at_is) = record { ready = λ e. refl; ready_items = λ es. refl; steps = refl; bare = λ ns. refl; group = λ ns. refl; host = refl; filter = λ d f e. refl }
stops us at_bar = record { ready = λ e. refl; ready_items = λ es. refl; steps = refl; bare = λ ns. refl; group = λ ns. refl; host = refl; filter = λ d f e. refl }

-- steps
steps-end : (k : ℕ) (us : Tokens) → next_step us ≡ no_step → steps_of k us ≡ Some (reading [] us)
steps-end zero us h = ap (λ x. go_on x us (λ vs. None)) h
steps-end (suc k) us h = ap (λ x. go_on x us (steps_of k)) h

letters-same : (t : Token) (n : Name) → Letters t n → letters_of t ≡ Some n
letters-same t n letters_of_name = refl
letters-same t n letters_of_word = refl

valid-same : (w : Name) → is_utf8 w ≡ true → valid w ≡ Some w
valid-same w h = ap (λ b. cond b (Some w) None) h

one-step : (k : ℕ) (ts us : Tokens) (n : Name) (o : Option Name) → o ≡ Some n → go_on (step_to o us) ts (steps_of k) ≡ with_tree (λ ns. n ∷ ns) (steps_of k us)
one-step k ts us n o h = ap (λ o. go_on (step_to o us) ts (steps_of k)) h

complete-steps : (k : ℕ) (xs : List Token) (ns : List Name) (us : Tokens) → length ns ≤ k → next_step us ≡ no_step → Steps xs ns → steps_of k (put xs us) ≡ Some (reading ns us)
complete-steps k xs ns us le c no_steps = steps-end k us c
complete-steps zero xs ns us le c (dotted l s) = absurd (omega (arith, le))
complete-steps (suc k) xs ns us le c (dotted {t = t} {n = n} {ts = ts} {ns = ms} l s) =
    one-step k (put xs us) (put ts us) n (letters_of t) (letters-same t n l) ∙ ap (with_tree (λ ns. n ∷ ns)) (complete-steps k ts ms us (omega (arith, le)) c s)
complete-steps zero xs ns us le c (bracketed h s) = absurd (omega (arith, le))
complete-steps (suc k) xs ns us le c (bracketed {w = w} {ts = ts} {ns = ms} h s) =
    one-step k (put xs us) (put ts us) w (valid w) (valid-same w h) ∙ ap (with_tree (λ ns. w ∷ ns)) (complete-steps k ts ms us (omega (arith, le)) c s)

-- the step that names a group, and the place behind it
group-steps : (g : Name) (k : ℕ) (ts : List Token) (us : Tokens) → Steps ts (g ∷ []) → steps_of 16 (put (ts ++ place k) us) ≡ Some (reading (g ∷ []) (put (place k) us))
group-steps g k ts us s =
    ap (steps_of 16) (put-append ts (place k) us) ∙ complete-steps 16 ts (g ∷ []) (put (place k) us) (omega arith) refl s

-- terms
text-term : (w : Name) (us : Tokens) → is_utf8 w ≡ true → before_some (option_map (λ w. named_host w) (valid w)) us ≡ before (named_host w) us
text-term w us h = ap (λ o. before_some (option_map (λ w. named_host w) o) us) (valid-same w h)

not-groups : (n : Name) (h : Term) (b : Bool) → bytes_eq n (codes "groups") ≡ b → term_named n ≡ Some h → b ≡ false
not-groups n h false e is = refl
not-groups n h true e is = absurd (none-some h (sym (ap term_named (same_name n (codes "groups") e)) ∙ is))

named-term : (n : Name) (h : Term) (us : Tokens) (r : Option (Reading Term)) → term_named n ≡ Some h → cond (bytes_eq n (codes "groups")) r (before_some (term_named n) us) ≡ before h us
named-term n h us r is =
    ap (λ b. cond b r (before_some (term_named n) us)) (not-groups n h (bytes_eq n (codes "groups")) refl is) ∙ ap (λ o. before_some o us) is

complete-term : (xs : List Token) (h : Term) (us : Tokens) → HostTerm xs h → term_of (put xs (token (sign closing_bracket) us)) ≡ Some (reading h (token (sign closing_bracket) us))
complete-term xs h us (a_host_name {w = w} ok) = text-term w (token (sign closing_bracket) us) ok
complete-term xs h us (a_named_term {n = n} is) = named-term n h (token (sign closing_bracket) us) (group_term (steps_of 16 (token (sign closing_bracket) us))) is
complete-term xs h us (a_group_term {ts = ts} {g = g} k s) = ap group_term (group-steps g k ts (token (sign closing_bracket) us) s)

-- hosts
then-before : (h : Term) (us : Tokens) → then_on (before h us) host_steps ≡ host_steps h us
then-before h finish = refl
then-before h unreadable = refl
then-before h (token t us) = refl

dotted-read : (n : Name) (us : Tokens) (o : Option Name) → o ≡ Some n → then_on (before_some (option_map (λ n. named_host n) o) us) host_steps ≡ host_steps (named_host n) us
dotted-read n us o h = ap (λ o. then_on (before_some (option_map (λ n. named_host n) o) us) host_steps) h ∙ then-before (named_host n) us

bracketed-read : (h : Term) (ts : List Token) (us : Tokens) → HostTerm ts h → hostvars_of (put (sign opening_bracket ∷ ts ++ sign closing_bracket ∷ []) us) ≡ host_steps h us
bracketed-read h ts us t =
    ap (λ vs. hostvars_of (token (sign opening_bracket) vs)) (put-append ts (sign closing_bracket ∷ []) us)
    ∙ ap (λ r. then_on (grammar.bracketed_host r) host_steps) (complete-term ts h us t) ∙ then-before h us

complete-host : (xs : List Token) (h : Term) (us : Tokens) → HostStep xs h → hostvars_of (put xs us) ≡ host_steps h us
complete-host xs h us (a_dotted_host {t = t} {n = n} l) = dotted-read n us (letters_of t) (letters-same t n l)
complete-host xs h us (a_bracketed_host {ts = ts} t) = bracketed-read h ts us t

host-end : (h : Term) (ts : List Token) (ns : List Name) (us : Tokens) → Steps ts ns → length ns ≤ 15 → Stops us → host_steps h (put ts us) ≡ Some (reading (host_path h ns) us)
host-end h ts ns us s le c =
    ap (λ r. with_tree (host_path h) (unbracketed r)) (complete-steps 15 ts ns us le c.steps s) ∙ ap (with_tree (host_path h)) (c.bare ns)

-- paths
own-read : (n : Name) (ns : List Name) (us : Tokens) (b : Bool) → Stops us → bytes_eq n (codes "groups") ≡ b
    → cond b (group_path (Some (reading ns us))) (with_tree (λ ns. path (variable n) ns) (unbracketed (Some (reading ns us)))) ≡ Some (reading (path (variable n) ns) us)
own-read n ns us true c e = c.group ns ∙ ap (λ m. Some (reading (path (variable m) ns) us)) (sym (same_name n (codes "groups") e))
own-read n ns us false c e = ap (with_tree (λ ns. path (variable n) ns)) (c.bare ns)

own-path : (n : Name) (ts : Tokens) (ns : List Name) (us : Tokens) → bytes_eq n (codes "hostvars") ≡ false → steps_of 16 ts ≡ Some (reading ns us) → Stops us → path_of n ts ≡ Some (reading (path (variable n) ns) us)
own-path n ts ns us own h c =
    ap (λ b. cond b (hostvars_of ts) (cond (bytes_eq n (codes "groups")) (group_path (steps_of 16 ts)) (with_tree (λ ns. path (variable n) ns) (unbracketed (steps_of 16 ts))))) own
    ∙ ap (λ r. cond (bytes_eq n (codes "groups")) (group_path r) (with_tree (λ ns. path (variable n) ns) (unbracketed r))) h
    ∙ own-read n ns us (bytes_eq n (codes "groups")) c refl

complete-path : (d : Deeper) (xs : List Token) (e : Expression) (us : Tokens) → Path xs e → Stops us → operand_at d (put xs us) ≡ Some (reading e us)
complete-path d xs e us (own_path {n = n} {ts = ts} {ns = ns} own s le) c = own-path n (put ts us) ns us own (complete-steps 16 ts ns us le c.steps s) c
complete-path d xs e us (group_place {ts = ts} {g = g} k s) c = ap group_path (group-steps g k ts us s) ∙ c.ready (path (member g (place_of k)) [])
complete-path d xs e us no_host c = c.host
complete-path d xs e us (hosts_path {ts = ts} {us = ys} {h = h} {ns = ns} t s le) c =
    ap hostvars_of (put-append ts ys us) ∙ complete-host ts h (put ys us) t ∙ host-end h ys ns us s (omega (arith, le)) c

-- operands
literal-read : (d : Deeper) (t : Token) (e : Expression) (us : Tokens) → literal_of t ≡ Some e → operand_at d (token t us) ≡ before e us
literal-read d (name n) e us is = absurd (none-some e is)
literal-read d (sign s) e us is = absurd (none-some e is)
literal-read d (word w n) e us is = ap (λ o. before_some o us) is
literal-read d (digits n) e us is = ap (λ o. before_some o us) is
literal-read d (minus n) e us is = ap (λ o. before_some o us) is
literal-read d (quoted w) e us is = ap (λ o. before_some o us) is

-- how what stands one level deeper is read
record CompleteDeeper (d : Deeper) (D : Nested) : Type 0 where
  pub whole : Complete d.whole D.whole Closes
  pub negated : Complete d.negated D.negated ClosesNot
  pub items : (xs : List Token) (es : Expressions) (us : Tokens) → D.items xs es → Stops us → d.items (put (xs ++ sign closing_bracket ∷ []) us) ≡ Some (reading es us)

-- what stands in parentheses
closed-read : (f : Reader) (D : Derivation) → Complete f D Closes → (ts ys : List Token) (e : Expression) (us : Tokens) → D ts e → closed (f (put (ts ++ sign closing ∷ ys) us)) ≡ before e (put ys us)
closed-read f D h ts ys e us tree =
    ap (λ vs. closed (f vs)) (put-append ts (sign closing ∷ ys) us) ∙ ap closed (h ts e (token (sign closing) (put ys us)) tree at_closing)

complete-operand_at : (d : Deeper) (D : Nested) → CompleteDeeper d D → (xs : List Token) (e : Expression) (us : Tokens) → Operand D xs e → Stops us → operand_at d (put xs us) ≡ Some (reading e us)
complete-operand_at d D h xs e us (a_literal {t = t} is) c = literal-read d t e us is ∙ c.ready e
complete-operand_at d D h xs e us (a_path p) c = complete-path d xs e us p c
complete-operand_at d D h xs e us (enclosed {ts = ts} tree) c = closed-read d.whole D.whole h.whole ts [] e us tree ∙ c.ready e
complete-operand_at d D h xs e us (a_list {ts = ts} {es = es} tree) c = ap (with_tree (λ es. list_of es)) (h.items ts es us tree c)

-- filters
filtered-end : (d : Deeper) (n : ℕ) (e : Expression) (us : Tokens) → ClosesFilters us → filtered d n e us ≡ Some (reading e us)
filtered-end d zero e us c = refl
filtered-end d (suc n) e us (at_not (at_chain (at_end at_finish))) = refl
filtered-end d (suc n) e us (at_not (at_chain (at_end at_closing))) = refl
filtered-end d (suc n) e us (at_not (at_chain (at_end at_bracket))) = refl
filtered-end d (suc n) e us (at_not (at_chain (at_end at_comma))) = refl
filtered-end d (suc n) e us (at_not (at_chain at_or)) = refl
filtered-end d (suc n) e us (at_not at_and) = refl
filtered-end d (suc n) e us at_compares = refl
filtered-end d (suc n) e us at_differs = refl
filtered-end d (suc n) e us at_in = refl
filtered-end d (suc n) e us at_not_in = refl
filtered-end d (suc n) e us at_is = refl

filters-follow : (D : Nested) (e b : Expression) (ts : List Token) (us : Tokens) → Filters D e ts b → ClosesFilters us → ClosesOperand (put ts us)
filters-follow D e b ts us no_filter c = at_filters c
filters-follow D e b ts us (filter is g) c = at_bar
filters-follow D e b ts us (filter_given tree is g) c = at_bar

given-read : (d : Deeper) (D : Nested) → CompleteDeeper d D → (f : Name) (e a b : Expression) (ts ys : List Token) (us : Tokens) → D.whole ts a → filter_with f e a ≡ Some b → Stops (put ys us)
    → filter_of d e (token (name f) (token (sign opening) (put (ts ++ sign closing ∷ ys) us))) ≡ Some (reading b (put ys us))
given-read d D h f e a b ts ys us tree is c =
    ap (λ r. then_on r (λ a us. before_some (filter_with f e a) us)) (closed-read d.whole D.whole h.whole ts ys a us tree ∙ c.ready a)
    ∙ ap (λ o. before_some o (put ys us)) is ∙ c.ready b

named-read : (d : Deeper) (f : Name) (e b : Expression) (us : Tokens) → filter_named f e ≡ Some b → Stops us → filter_of d e (token (name f) us) ≡ Some (reading b us)
named-read d f e b us is c = c.filter d f e ∙ ap (λ o. before_some o us) is ∙ c.ready b

complete-filters : (d : Deeper) (D : Nested) → CompleteDeeper d D → (n : ℕ) (e : Expression) (xs : List Token) (b : Expression) (us : Tokens) → length xs ≤ n → Filters D e xs b → ClosesFilters us → filtered d n e (put xs us) ≡ Some (reading b us)
complete-filters d D h n e xs b us le no_filter c = filtered-end d n e us c
complete-filters d D h zero e xs b us le (filter is g) c = absurd (omega (arith, le))
complete-filters d D h (suc n) e xs b us le (filter {f = f} {ts = ts} {b = a} is g) c =
    ap (λ r. then_on r (filtered d n)) (named-read d f e a (put ts us) is (stops (put ts us) (filters-follow D a b ts us g c))) ∙ complete-filters d D h n a ts b us (omega (arith, le)) g c
complete-filters d D h zero e xs b us le (filter_given tree is g) c = absurd (omega (arith, le))
complete-filters d D h (suc n) e xs b us le (filter_given {f = f} {ts = ts} {us = ys} {a = a} {b = m} tree is g) c =
    ap (λ r. then_on r (filtered d n)) (given-read d D h f e a m ts ys us tree is (stops (put ys us) (filters-follow D m b ys us g c)))
    ∙ complete-filters d D h n m ys b us (omega (arith, le, length-append ts (sign closing ∷ ys))) g c

count-put : (xs : List Token) (us : Tokens) → length xs ≤ count_of (put xs us)
count-put [] us = omega arith
count-put (x ∷ xs) us = omega (arith, count-put xs us)

filtered-read : (d : Deeper) (D : Nested) → CompleteDeeper d D → (xs ys : List Token) (a b : Expression) (us : Tokens) (n : ℕ) → length ys ≤ n → Operand D xs a → Filters D a ys b → ClosesFilters us
    → then_on (operand_at d (put xs (put ys us))) (filtered d n) ≡ Some (reading b us)
filtered-read d D h xs ys a b us n le o g c =
    ap (λ r. then_on r (filtered d n)) (complete-operand_at d D h xs a (put ys us) o (stops (put ys us) (filters-follow D a b ys us g c))) ∙ complete-filters d D h n a ys b us le g c

complete-operand : (d : Deeper) (D : Nested) → CompleteDeeper d D → Complete (operand_of d) (Filtered D) ClosesFilters
complete-operand d D h xs e us (an_operand {ts = ts} {us = ys} {a = a} o g) c =
    ap (λ vs. then_on (operand_at d vs) (filtered d (count_of (put (ts ++ ys) us)))) (put-append ts ys us)
    ∙ filtered-read d D h ts ys a e us (count_of (put (ts ++ ys) us)) (omega (arith, count-put (ts ++ ys) us, length-append ts ys)) o g c

nonempty-path : NonEmpty Path
nonempty-path xs e (own_path own s le) = omega arith
nonempty-path xs e (group_place k s) = omega arith
nonempty-path xs e no_host = omega arith
nonempty-path xs e (hosts_path t s le) = omega arith

nonempty-operand : (D : Nested) → NonEmpty (Operand D)
nonempty-operand D xs e (a_literal is) = omega arith
nonempty-operand D xs e (a_path p) = nonempty-path xs e p
nonempty-operand D xs e (enclosed tree) = omega arith
nonempty-operand D xs e (a_list tree) = omega arith

nonempty-filtered : (D : Nested) → NonEmpty (Filtered D)
nonempty-filtered D xs e (an_operand {ts = ts} {us = us} {a = a} o g) = omega (arith, nonempty-operand D ts a o, length-append ts us)

length-between : (xs : List Token) (t : Token) (ys : List Token) → length (xs ++ t ∷ ys) ≡ length xs + suc (length ys)
length-between xs t ys = length-append xs (t ∷ ys)

nonempty-between : (xs : List Token) (t : Token) (ys : List Token) → 1 ≤ length (xs ++ t ∷ ys)
nonempty-between xs t ys = omega (arith, length-between xs t ys)

-- relations
related-end : (f : Reader) (a : Expression) (us : Tokens) → ClosesNot us → related f a us ≡ Some (reading a us)
related-end f a us (at_chain (at_end at_finish)) = refl
related-end f a us (at_chain (at_end at_closing)) = refl
related-end f a us (at_chain (at_end at_bracket)) = refl
related-end f a us (at_chain (at_end at_comma)) = refl
related-end f a us (at_chain at_or) = refl
related-end f a us at_and = refl

-- the operand on the left, with what follows it
left-read : (f : Reader) (D : Derivation) → Complete f D ClosesFilters → (xs ys : List Token) (a : Expression) (us : Tokens) → D xs a → ClosesFilters (put ys us) → then_on (f (put (xs ++ ys) us)) (related f) ≡ related f a (put ys us)
left-read f D h xs ys a us l c =
    ap (λ vs. then_on (f vs) (related f)) (put-append xs ys us) ∙ ap (λ r. then_on r (related f)) (h xs a (put ys us) l c)

right-read : (f : Reader) (D : Derivation) → Complete f D ClosesFilters → (make : Expression → Expression) (ys : List Token) (b : Expression) (us : Tokens) → D ys b → ClosesNot us → with_tree make (f (put ys us)) ≡ Some (reading (make b) us)
right-read f D h make ys b us r c = ap (with_tree make) (h ys b us r (at_not c))

test-read : (t : Name) (a e : Expression) (us : Tokens) → test_named t a ≡ Some e → ClosesNot us → before_some (test_named t a) us ≡ Some (reading e us)
test-read t a e us is c = ap (λ o. before_some o us) is ∙ (stops us (at_filters (at_not c))).ready e

complete-related : (D : Nested) (f : Reader) → Complete f (Filtered D) ClosesFilters → Complete (λ ts. then_on (f ts) (related f)) (Relation D) ClosesNot
complete-related D f h xs e us (one_operand l) c = ap (λ r. then_on r (related f)) (h xs e us l (at_not c)) ∙ related-end f e us c
complete-related D f h xs e us (are_compared o {ts = ts} {us = ys} {a = a} {b = b} l r) c =
    left-read f (Filtered D) h ts (sign (compares o) ∷ ys) a us l at_compares ∙ right-read f (Filtered D) h (λ b. comparison o a b) ys b us r c
complete-related D f h xs e us (are_different {ts = ts} {us = ys} {a = a} {b = b} l r) c =
    left-read f (Filtered D) h ts (sign differs ∷ ys) a us l at_differs ∙ right-read f (Filtered D) h (λ b. negation (comparison equal a b)) ys b us r c
complete-related D f h xs e us (is_in n {ts = ts} {us = ys} {a = a} {b = b} l r) c =
    left-read f (Filtered D) h ts (word in_word n ∷ ys) a us l at_in ∙ right-read f (Filtered D) h (λ b. contained a b) ys b us r c
complete-related D f h xs e us (is_not_in n m {ts = ts} {us = ys} {a = a} {b = b} l r) c =
    left-read f (Filtered D) h ts (word not_word n ∷ word in_word m ∷ ys) a us l at_not_in ∙ right-read f (Filtered D) h (λ b. negation (contained a b)) ys b us r c
complete-related D f h xs e us (passes n t {ts = ts} {a = a} l is) c =
    left-read f (Filtered D) h ts (word is_word n ∷ name t ∷ []) a us l at_is ∙ test-read t a e us is c
complete-related D f h xs e us (fails n m t {ts = ts} {a = a} {e = b} l is) c =
    left-read f (Filtered D) h ts (word is_word n ∷ word not_word m ∷ name t ∷ []) a us l at_is ∙ ap (with_tree (λ e. negation e)) (test-read t a b us is c)

nonempty-relation : (D : Nested) → NonEmpty (Relation D)
nonempty-relation D xs e (one_operand l) = nonempty-filtered D xs e l
nonempty-relation D xs e (are_compared o {ts = ts} {us = ys} l r) = nonempty-between ts (sign (compares o)) ys
nonempty-relation D xs e (are_different {ts = ts} {us = ys} l r) = nonempty-between ts (sign differs) ys
nonempty-relation D xs e (is_in n {ts = ts} {us = ys} l r) = nonempty-between ts (word in_word n) ys
nonempty-relation D xs e (is_not_in n m {ts = ts} {us = ys} l r) = nonempty-between ts (word not_word n) (word in_word m ∷ ys)
nonempty-relation D xs e (passes n t {ts = ts} l is) = nonempty-between ts (word is_word n) (name t ∷ [])
nonempty-relation D xs e (fails n m t {ts = ts} l is) = nonempty-between ts (word is_word n) (word not_word m ∷ name t ∷ [])

-- no operand begins with `not`
relation-first : (d : Deeper) (ts : Tokens) (e : Expression) (us : Tokens) → relation_of d ts ≡ Some (reading e us) → negation_of d ts ≡ Some (reading e us)
relation-first d (token (word not_word n) ts) e us h = absurd (none-some (reading e us) h)
relation-first d ts e us h = h

complete-negation : (d : Deeper) (D : Nested) → CompleteDeeper d D → Complete (negation_of d) (Negation D) ClosesNot
complete-negation d D h xs e us (a_relation r) c = relation-first d (put xs us) e us (complete-related D (operand_of d) (complete-operand d D h) xs e us r c)
complete-negation d D h xs e us (a_negation {ts = ts} {e = a} r) c = ap (with_tree (λ e. negation e)) (h.negated ts a us r c)

nonempty-negation : (D : Nested) → NonEmpty (Negation D)
nonempty-negation D xs e (a_relation r) = nonempty-relation D xs e r
nonempty-negation D xs e (a_negation r) = omega arith

-- what links operands: it goes on behind one, and what follows the chain doesn't begin with it
record Linked (k : Link) (C O : Tokens → Type 0) : Type 0 where
  pub goes : (t : Token) (us : Tokens) → Links k t → behind_link k (token t us) ≡ Some us
  pub follows : (t : Token) (us : Tokens) → Links k t → O (token t us)
  pub stops : (us : Tokens) → C us → behind_link k us ≡ None
  pub ends : (us : Tokens) → C us → O us

first-read : (k : Link) (f : Reader) (n : ℕ) (ts : Tokens) (e : Expression) (us : Tokens) (o : Option Tokens) → f ts ≡ Some (reading e us) → behind_link k us ≡ o → chain_of k f (suc n) ts ≡ chain_on e us o (chain_of k f n)
first-read k f n ts e us o h is = ap (λ r. then_on r (λ e us. chain_on e us (behind_link k us) (chain_of k f n))) h ∙ ap (λ o. chain_on e us o (chain_of k f n)) is

last-read : (k : Link) (C O : Tokens → Type 0) (f : Reader) (D : Derivation) → Linked k C O → Complete f D O → (n : ℕ) (xs : List Token) (e : Expression) (us : Tokens) → D xs e → C us → chain_of k f (suc n) (put xs us) ≡ Some (reading (expression e no_expressions) us)
last-read k C O f D l h n xs e us tree c = first-read k f n (put xs us) e us None (h xs e us tree (l.ends us c)) (l.stops us c)

more-read : (k : Link) (C O : Tokens → Type 0) (f : Reader) (D : Derivation) → Linked k C O → Complete f D O → (n : ℕ) (t : Token) (xs ys : List Token) (e : Expression) (es : Expressions) (us : Tokens)
    → Links k t → D xs e → chain_of k f n (put ys us) ≡ Some (reading es us) → chain_of k f (suc n) (put (xs ++ t ∷ ys) us) ≡ Some (reading (expression e es) us)
more-read k C O f D l h n t xs ys e es us link tree rest =
    ap (chain_of k f (suc n)) (put-append xs (t ∷ ys) us)
    ∙ first-read k f n (put xs (token t (put ys us))) e (token t (put ys us)) (Some (put ys us)) (h xs e (token t (put ys us)) tree (l.follows t (put ys us) link)) (l.goes t (put ys us) link)
    ∙ ap (with_tree (λ es. expression e es)) rest

complete-chain : (k : Link) (C O : Tokens → Type 0) (f : Reader) (D : Derivation) → Linked k C O → Complete f D O → NonEmpty D → (n : ℕ) (xs : List Token) (es : Expressions) (us : Tokens)
    → length xs ≤ n → C us → Chain k D xs es → chain_of k f n (put xs us) ≡ Some (reading es us)
complete-chain k C O f D l h some zero xs es us le c (last {e = e} tree) = absurd (omega (arith, le, some xs e tree))
complete-chain k C O f D l h some (suc n) xs es us le c (last {e = e} tree) = last-read k C O f D l h n xs e us tree c
complete-chain k C O f D l h some zero xs es us le c (more {t = t} {ts = ts} {us = ys} link tree rest) = absurd (omega (arith, le, length-between ts t ys))
complete-chain k C O f D l h some (suc n) xs es us le c (more {t = t} {ts = ts} {us = ys} {e = e} {es = fs} link tree rest) =
    more-read k C O f D l h n t ts ys e fs us link tree (complete-chain k C O f D l h some n ys fs us (omega (arith, le, length-between ts t ys)) c rest)

joined-several : (k : Link) (make : Expressions → Expression) (D : Derivation) (e : Expression) (ys : List Token) (es : Expressions) → Chain k D ys es → joined make (expression e es) ≡ make (expression e es)
joined-several k make D e ys es (last tree) = refl
joined-several k make D e ys es (more link tree rest) = refl

complete-joined : (k : Link) (make : Expressions → Expression) (C O : Tokens → Type 0) (f : Reader) (D : Derivation) → Linked k C O → Complete f D O → NonEmpty D
    → Complete (λ ts. with_tree (joined make) (chain_of k f (count_of ts) ts)) (Joined k make D) C
complete-joined k make C O f D l h some xs e us (alone tree) c =
    ap (with_tree (joined make)) (complete-chain k C O f D l h some (count_of (put xs us)) xs (expression e no_expressions) us (count-put xs us) c (last tree))
complete-joined k make C O f D l h some xs e us (several {t = t} {ts = ts} {us = ys} {e = a} {es = es} link tree rest) c =
    ap (with_tree (joined make)) (complete-chain k C O f D l h some (count_of (put (ts ++ t ∷ ys) us)) (ts ++ t ∷ ys) (expression a es) us (count-put (ts ++ t ∷ ys) us) c (more link tree rest))
    ∙ ap (λ e. Some (reading e us)) (joined-several k make D a ys es rest)

nonempty-joined : (k : Link) (make : Expressions → Expression) (D : Derivation) → NonEmpty D → NonEmpty (Joined k make D)
nonempty-joined k make D some xs e (alone tree) = some xs e tree
nonempty-joined k make D some xs e (several {t = t} {ts = ts} {us = ys} link tree rest) = nonempty-between ts t ys

goes-link : (k : Link) (t : Token) (us : Tokens) → Links k t → behind_link k (token t us) ≡ Some us
goes-link k t us an_and = refl
goes-link k t us an_or = refl
goes-link k t us a_comma = refl

follows-and : (t : Token) (us : Tokens) → Links and_link t → ClosesNot (token t us)
follows-and t us an_and = at_and

follows-or : (t : Token) (us : Tokens) → Links or_link t → ClosesAnd (token t us)
follows-or t us an_or = at_or

follows-comma : (t : Token) (us : Tokens) → Links comma_link t → Closes (token t us)
follows-comma t us a_comma = at_comma

stops-and : (us : Tokens) → ClosesAnd us → behind_link and_link us ≡ None
stops-and us (at_end at_finish) = refl
stops-and us (at_end at_closing) = refl
stops-and us (at_end at_bracket) = refl
stops-and us (at_end at_comma) = refl
stops-and us at_or = refl

stops-or : (us : Tokens) → Closes us → behind_link or_link us ≡ None
stops-or us at_finish = refl
stops-or us at_closing = refl
stops-or us at_bracket = refl
stops-or us at_comma = refl

-- a list's items end at its `]`
data ClosesItems : Tokens → Type 0 where
  at_last : {us : Tokens} → ClosesItems (token (sign closing_bracket) us)

stops-comma : (us : Tokens) → ClosesItems us → behind_link comma_link us ≡ None
stops-comma us at_last = refl

ends-items : (us : Tokens) → ClosesItems us → Closes us
ends-items us at_last = at_bracket

linked-and : Linked and_link ClosesAnd ClosesNot
linked-and = record { goes = λ t us h. goes-link and_link t us h; follows = follows-and; stops = stops-and; ends = λ us c. at_chain c }

linked-or : Linked or_link Closes ClosesAnd
linked-or = record { goes = λ t us h. goes-link or_link t us h; follows = follows-or; stops = stops-or; ends = λ us c. at_end c }

linked-comma : Linked comma_link ClosesItems Closes
linked-comma = record { goes = λ t us h. goes-link comma_link t us h; follows = follows-comma; stops = stops-comma; ends = ends-items }

complete-conjunction : (d : Deeper) (D : Nested) → CompleteDeeper d D → Complete (conjunction_of d) (Conjunction D) ClosesAnd
complete-conjunction d D h = complete-joined and_link (λ es. conjunction es) ClosesAnd ClosesNot (negation_of d) (Negation D) linked-and (complete-negation d D h) (nonempty-negation D)

nonempty-conjunction : (D : Nested) → NonEmpty (Conjunction D)
nonempty-conjunction D = nonempty-joined and_link (λ es. conjunction es) (Negation D) (nonempty-negation D)

complete-disjunction : (d : Deeper) (D : Nested) → CompleteDeeper d D → Complete (disjunction_of d) (Disjunction D) Closes
complete-disjunction d D h = complete-joined or_link (λ es. disjunction es) Closes ClosesAnd (conjunction_of d) (Conjunction D) linked-or (complete-conjunction d D h) (nonempty-conjunction D)

nonempty-disjunction : (D : Nested) → NonEmpty (Disjunction D)
nonempty-disjunction D = nonempty-joined or_link (λ es. disjunction es) (Conjunction D) (nonempty-conjunction D)

-- the items of a list; none of them begins with `]`
items-first : (f : Reader) (ts : Tokens) (es : Expressions) (us : Tokens) → ((vs : Tokens) → f (token (sign closing_bracket) vs) ≡ None) → closed_items (chain_of comma_link f (count_of ts) ts) ≡ Some (reading es us) → items_of f ts ≡ Some (reading es us)
items-first f (token (sign closing_bracket) ts) es us none h =
    absurd (none-some (reading es us) (sym (ap (λ r. closed_items (then_on r (λ e us. chain_on e us (behind_link comma_link us) (chain_of comma_link f (count_of ts))))) (none ts)) ∙ h))
items-first f ts es us none h = h

complete-items : (f : Reader) (W : Derivation) → Complete f W Closes → NonEmpty W → ((vs : Tokens) → f (token (sign closing_bracket) vs) ≡ None) → (xs : List Token) (es : Expressions) (us : Tokens) → Items W xs es → Stops us
    → items_of f (put (xs ++ sign closing_bracket ∷ []) us) ≡ Some (reading es us)
complete-items f W h some none xs es us no_items c = c.ready_items no_expressions
complete-items f W h some none xs es us (some_items tree) c =
    ap (items_of f) (put-append xs (sign closing_bracket ∷ []) us)
    ∙ items-first f (put xs (token (sign closing_bracket) us)) es us none
    (ap closed_items (complete-chain comma_link ClosesItems Closes f W linked-comma h some (count_of (put xs (token (sign closing_bracket) us))) xs es (token (sign closing_bracket) us) (count-put xs (token (sign closing_bracket) us)) at_last tree)
    ∙ c.ready_items es)

complete-deeper : (n : ℕ) → CompleteDeeper (deeper n) (nested n)
complete-deeper zero = record { whole = λ xs e us h c. absurd h; negated = λ xs e us h c. absurd h; items = λ xs es us h c. absurd h }
complete-deeper (suc n) = record {
  whole = complete-disjunction (deeper n) (nested n) (complete-deeper n);
  negated = complete-negation (deeper n) (nested n) (complete-deeper n);
  items = complete-items (disjunction_of (deeper n)) (Disjunction (nested n)) (complete-disjunction (deeper n) (nested n) (complete-deeper n)) (nonempty-disjunction (nested n)) (λ vs. refl);
}

put-more : (t : Token) (us : Tokens) (xs : List Token) (o : Option (List Token)) → ((ys : List Token) → o ≡ Some ys → us ≡ put ys finish) → with_token t o ≡ Some xs → token t us ≡ put xs finish
put-more t us xs None h is = absurd (none-some xs is)
put-more t us xs (Some ys) h is = ap (token t) (h ys refl) ∙ ap (λ xs. put xs finish) (same_Some (t ∷ ys) xs is)

put-listed : (us : Tokens) (xs : List Token) → listed us ≡ Some xs → us ≡ put xs finish
put-listed finish xs h = ap (λ xs. put xs finish) (same_Some [] xs h)
put-listed unreadable xs h = absurd (none-some xs h)
put-listed (token t us) xs h = put-more t us xs (listed us) (λ ys is. put-listed us ys is) h

reads-at : (n : ℕ) (ts : Tokens) (e : Expression) (xs : List Token) → listed ts ≡ Some xs → Derives n xs e → all_of (disjunction_of (deeper n) ts) ≡ Some e
reads-at n ts e xs is tree =
    ap (λ ts. all_of (disjunction_of (deeper n) ts)) (put-listed ts xs is) ∙ ap all_of (complete-disjunction (deeper n) (nested n) (complete-deeper n) xs e finish tree at_finish)

pub derived_are_trees : DerivedAreTrees
derived_are_trees bs e xs is tree = reads-at 32 (tokens_of bs) e xs is tree
