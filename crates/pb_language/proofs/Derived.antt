-- What the grammar's readers read is derived by the productions.
use Rattle.std.proofs.Common.{◌≡◌, ℕ, zero, suc, ◌≤◌, List, [], ◌∷◌, ◌++◌, length, Bool, true, false, cond, Option, Some, None, option_map, codes, refl, sym, ap, ◌∙◌, subst, arith}
use Rattle.std.proofs.lemmas.List.{append_assoc}
use Rattle.std.proofs.lemmas.Option.{none-some, same_Some}
use Rattle.std.proofs.lemmas.Slice.Eq.{bytes_eq-Decides}
use Rattle.std.specs.Str.{is_utf8, bytes_eq}
use Rattle.pb_language.specs.Derivations.{Derivation, Nested, Letters, letters_of_name, letters_of_word, Steps, no_steps, dotted, bracketed, place, HostTerm, a_host_name, a_named_term, a_group_term, HostStep, a_dotted_host, a_bracketed_host, Path, own_path, group_place, no_host, hosts_path, Operand, a_literal, a_path, enclosed, a_list, Filters, no_filter, filter, filter_given, Filtered, an_operand, Relation, one_operand, are_compared, are_different, is_in, is_not_in, passes, fails, Negation, a_relation, a_negation, Links, an_and, an_or, a_comma, Chain, last, more, Joined, alone, several, Conjunction, Disjunction, Items, no_items, some_items, nested, Derives, with_token, listed, TreesAreDerived}
use Rattle.pb_language.specs.Expression.{Name, equal, Term, named_host, group_member, Expression, path, hostvars_alone, negation, conjunction, disjunction, comparison, list_of, variable, member, Expressions, no_expressions, expression}
use Rattle.pb_language.specs.Grammar as grammar
use Rattle.pb_language.specs.Grammar.{Reading, reading, Reader, Deeper, before, with_tree, then_on, before_some, Next, no_step, broken_step, a_step, letters_of, valid, step_to, dotted_step, bracketed_step, next_step, go_on, steps_of, unbracketed, place_of, in_group, term_named, group_term, name_term, term_of, host_path, host_steps, hostvars_of, group_path, path_of, closed, literal_of, operand_at, filter_named, filter_with, filter_of, filtered, count_of, operand_of, test_named, test_of, tested, contained, related, relation_of, negation_of, Link, and_link, or_link, comma_link, behind_link, chain_on, chain_of, joined, conjunction_of, disjunction_of, closed_items, items_of, deeper, all_of}
use Rattle.pb_language.specs.Tokens.{Token, Tokens, finish, unreadable, token, name, word, digits, quoted, sign, and_word, or_word, not_word, in_word, is_word, opening, closing, dot, compares, differs, bar, opening_bracket, closing_bracket, comma, tokens_of}

-- these tokens before those
abbrev pub put : List Token → Tokens → Tokens
put [] us = us
put (t ∷ ts) us = token t (put ts us)

pub put-append : (xs ys : List Token) (us : Tokens) → put (xs ++ ys) us ≡ put xs (put ys us)
put-append [] ys us = refl
put-append (x ∷ xs) ys us = ap (token x) (put-append xs ys us)

-- a front of the tokens has that tree, and these tokens follow
record Front {T : Type 0} (D : List Token → T → Type 0) (ts : Tokens) (e : T) (us : Tokens) : Type 0 where
  pub front : List Token
  pub same : ts ≡ put front us
  pub tree : D front e

abbrev Finds : {T : Type 0} → (List Token → T → Type 0) → Tokens → Option (Reading T) → Type 0
Finds D ts None = Unit {0}
Finds D ts (Some (reading e us)) = Front D ts e us

abbrev Sound : Reader → Derivation → Type 0
Sound f D = (ts : Tokens) → Finds D ts (f ts)

-- what has two parts: the first before some tokens, and then the second
sound-then : {S T : Type 0} (C : List Token → S → Type 0) (D : List Token → T → Type 0) (ts us : Tokens) (r : Option (Reading S)) (f : S → Tokens → Option (Reading T)) → Finds C us r
    → ((e : S) (vs : Tokens) → Front C us e vs → Finds D ts (f e vs)) → Finds D ts (then_on r f)
sound-then C D ts us None f h g = tt
sound-then C D ts us (Some (reading e vs)) f h g = g e vs h

sound-with : {S T : Type 0} (C : List Token → S → Type 0) (D : List Token → T → Type 0) (ts us : Tokens) (make : S → T) (r : Option (Reading S)) → Finds C us r
    → ((e : S) (vs : Tokens) → Front C us e vs → Front D ts (make e) vs) → Finds D ts (with_tree make r)
sound-with C D ts us make None h g = tt
sound-with C D ts us make (Some (reading e vs)) h g = g e vs h

sound-before : {T : Type 0} (D : List Token → T → Type 0) (ts us : Tokens) (e : T) → Front D ts e us → Finds D ts (before e us)
sound-before D ts unreadable e h = tt
sound-before D ts finish e h = h
sound-before D ts (token t us) e h = h

sound-some : {T : Type 0} (D : List Token → T → Type 0) (ts us : Tokens) (o : Option T) → ((e : T) → o ≡ Some e → Front D ts e us) → Finds D ts (before_some o us)
sound-some D ts us None h = tt
sound-some D ts us (Some e) h = sound-before D ts us e (h e refl)

-- two fronts, one behind the other
behind : (ts us vs : Tokens) (xs ys : List Token) → ts ≡ put xs us → us ≡ put ys vs → ts ≡ put (xs ++ ys) vs
behind ts us vs xs ys h g = h ∙ ap (put xs) g ∙ sym (put-append xs ys vs)

-- with tokens between them
between : (ts us vs : Tokens) (xs ys zs : List Token) → ts ≡ put xs (put ys us) → us ≡ put zs vs → ts ≡ put (xs ++ (ys ++ zs)) vs
between ts us vs xs ys zs h g =
    h ∙ ap (λ us. put xs (put ys us)) g ∙ ap (put xs) (sym (put-append ys zs vs)) ∙ sym (put-append xs (ys ++ zs) vs)

same-letters : (t : Token) (n : Name) → letters_of t ≡ Some n → Letters t n
same-letters (name m) n is = subst (Letters (name m)) (same_Some m n is) letters_of_name
same-letters (word w m) n is = subst (Letters (word w m)) (same_Some m n is) letters_of_word
same-letters t n is = absurd (none-some n is)

pub same_name : (n m : Name) → bytes_eq n m ≡ true → n ≡ m
same_name n m h = (bytes_eq-Decides n m).0 h

abbrev FewSteps : ℕ → List Token → List Name → Type 0
FewSteps n ts ns = Steps ts ns × (length ns ≤ n)

-- a step, and others behind it
record AStep (ts : Tokens) (n : Name) (us : Tokens) : Type 0 where
  pub front : List Token
  pub same : ts ≡ put front us
  pub steps : (zs : List Token) (ns : List Name) → Steps zs ns → Steps (front ++ zs) (n ∷ ns)

abbrev FindsStep : Tokens → Next → Type 0
FindsStep ts no_step = Unit {0}
FindsStep ts broken_step = Unit {0}
FindsStep ts (a_step n us) = AStep ts n us

dot-step : (t : Token) (ts : Tokens) (o : Option Name) → ((n : Name) → o ≡ Some n → Letters t n) → FindsStep (token (sign dot) (token t ts)) (step_to o ts)
dot-step t ts None h = tt
dot-step t ts (Some n) h = record { front = sign dot ∷ t ∷ []; same = refl; steps = λ zs ns s. dotted (h n refl) s }

bracket-step : (w : Name) (ts : Tokens) (b : Bool) → is_utf8 w ≡ b → FindsStep (token (sign opening_bracket) (token (quoted w) (token (sign closing_bracket) ts))) (step_to (cond b (Some w) None) ts)
bracket-step w ts false h = tt
bracket-step w ts true h = record { front = sign opening_bracket ∷ quoted w ∷ sign closing_bracket ∷ []; same = refl; steps = λ zs ns s. bracketed h s }

sound-dot : (ts : Tokens) → FindsStep (token (sign dot) ts) (dotted_step ts)
sound-dot (token t ts) = dot-step t ts (letters_of t) (λ n is. same-letters t n is)
sound-dot ts = tt

sound-bracket : (ts : Tokens) → FindsStep (token (sign opening_bracket) ts) (bracketed_step ts)
sound-bracket (token (quoted w) (token (sign closing_bracket) ts)) = bracket-step w ts (is_utf8 w) refl
sound-bracket ts = tt

sound-next : (ts : Tokens) → FindsStep ts (next_step ts)
sound-next (token (sign dot) ts) = sound-dot ts
sound-next (token (sign opening_bracket) ts) = sound-bracket ts
sound-next ts = tt

few-none : (n : ℕ) (ts : Tokens) → Front (FewSteps n) ts [] ts
few-none n ts = record { front = []; same = refl; tree = (no_steps, omega arith) }

sound-last : (ts : Tokens) (x : Next) → FindsStep ts x → Finds (FewSteps 0) ts (go_on x ts (λ us. None))
sound-last ts no_step h = few-none 0 ts
sound-last ts broken_step h = tt
sound-last ts (a_step n us) h = tt

sound-go : (n : ℕ) (ts : Tokens) (x : Next) (steps : Tokens → Option (Reading (List Name))) → FindsStep ts x → ((us : Tokens) → Finds (FewSteps n) us (steps us)) → Finds (FewSteps (suc n)) ts (go_on x ts steps)
sound-go n ts no_step steps s h = few-none (suc n) ts
sound-go n ts broken_step steps s h = tt
sound-go n ts (a_step m us) steps s h =
    sound-with (FewSteps n) (FewSteps (suc n)) ts us (λ ns. m ∷ ns) (steps us) (h us)
    (λ ns vs l. record { front = s.front ++ l.front; same = behind ts us vs s.front l.front s.same l.same; tree = (s.steps l.front ns l.tree.0, omega (arith, l.tree.1)) })

sound-steps : (n : ℕ) (ts : Tokens) → Finds (FewSteps n) ts (steps_of n ts)
sound-steps zero ts = sound-last ts (next_step ts) (sound-next ts)
sound-steps (suc n) ts = sound-go n ts (next_step ts) (steps_of n) (sound-next ts) (λ us. sound-steps n us)

sound-unbracketed : (n : ℕ) (ts : Tokens) (r : Option (Reading (List Name))) → Finds (FewSteps n) ts r → Finds (FewSteps n) ts (unbracketed r)
sound-unbracketed n ts (Some (reading ns (token (sign opening_bracket) us))) h = tt
sound-unbracketed n ts r h = h

sound-path_steps : (n : ℕ) (ts : Tokens) → Finds (FewSteps n) ts (unbracketed (steps_of n ts))
sound-path_steps n ts = sound-unbracketed n ts (steps_of n ts) (sound-steps n ts)

-- the place in a group, behind the tokens of its name
sound-in_group : {T : Type 0} (D : List Token → T → Type 0) (make : Name → ℕ → T) (ts : Tokens) (ns : List Name) (us : Tokens) (xs : List Token) → ts ≡ put xs (token (sign opening_bracket) us)
    → ((g : Name) (k : ℕ) → ns ≡ g ∷ [] → D (xs ++ place k) (make g (place_of k))) → Finds D ts (in_group make ns us)
sound-in_group D make ts (g ∷ []) (token (digits k) (token (sign closing_bracket) us)) xs same h =
    sound-before D ts us (make g (place_of k)) (record { front = xs ++ place k; same = same ∙ sym (put-append xs (place k) us); tree = h g k refl })
sound-in_group D make ts ns us xs same h = tt

abbrev groups_name : Name
groups_name = codes "groups"

abbrev hosts_name : Name
hosts_name = codes "hostvars"

sound-group_term : (ts : Tokens) (r : Option (Reading (List Name))) → Finds (FewSteps 16) ts r → Finds HostTerm (token (name groups_name) ts) (group_term r)
sound-group_term ts (Some (reading ns (token (sign opening_bracket) us))) h =
    sound-in_group HostTerm (λ g k. group_member g k) (token (name groups_name) ts) ns us (name groups_name ∷ h.front) (ap (token (name groups_name)) h.same)
    (λ g k is. a_group_term k (subst (λ ns. Steps h.front ns) is h.tree.0))
sound-group_term ts r h = tt

text-term : (w : Name) (ts : Tokens) (b : Bool) → is_utf8 w ≡ b → Finds HostTerm (token (quoted w) ts) (before_some (option_map (λ w. named_host w) (cond b (Some w) None)) ts)
text-term w ts false h = tt
text-term w ts true h = sound-before HostTerm (token (quoted w) ts) ts (named_host w) (record { front = quoted w ∷ []; same = refl; tree = a_host_name h })

name-front : (n : Name) (ts : Tokens) (h : Term) → term_named n ≡ Some h → Front HostTerm (token (name n) ts) h ts
name-front n ts h is = record { front = name n ∷ []; same = refl; tree = a_named_term is }

sound-name_term : (n : Name) (ts : Tokens) (b : Bool) → bytes_eq n groups_name ≡ b → Finds HostTerm (token (name n) ts) (cond b (group_term (steps_of 16 ts)) (before_some (term_named n) ts))
sound-name_term n ts true h =
    subst (λ m. Finds HostTerm (token (name m) ts) (group_term (steps_of 16 ts))) (sym (same_name n groups_name h)) (sound-group_term ts (steps_of 16 ts) (sound-steps 16 ts))
sound-name_term n ts false h = sound-some HostTerm (token (name n) ts) ts (term_named n) (λ t is. name-front n ts t is)

sound-term : (ts : Tokens) → Finds HostTerm ts (term_of ts)
sound-term (token (quoted w) ts) = text-term w ts (is_utf8 w) refl
sound-term (token (name n) ts) = sound-name_term n ts (bytes_eq n groups_name) refl
sound-term ts = tt

dot-host : (t : Token) (ts : Tokens) (o : Option Name) → ((n : Name) → o ≡ Some n → Letters t n) → Finds HostStep (token (sign dot) (token t ts)) (before_some (option_map (λ n. named_host n) o) ts)
dot-host t ts None h = tt
dot-host t ts (Some n) h = sound-before HostStep (token (sign dot) (token t ts)) ts (named_host n) (record { front = sign dot ∷ t ∷ []; same = refl; tree = a_dotted_host (h n refl) })

sound-dotted_host : (ts : Tokens) → Finds HostStep (token (sign dot) ts) (grammar.dotted_host ts)
sound-dotted_host (token t ts) = dot-host t ts (letters_of t) (λ n is. same-letters t n is)
sound-dotted_host ts = tt

-- a front, and a token that closes it
shut-same : (t o : Token) (ts us : Tokens) (xs : List Token) → ts ≡ put xs (token t us) → token o ts ≡ put (o ∷ xs ++ t ∷ []) us
shut-same t o ts us xs h = ap (token o) (h ∙ sym (put-append xs (t ∷ []) us))

sound-bracketed_host : (ts : Tokens) (r : Option (Reading Term)) → Finds HostTerm ts r → Finds HostStep (token (sign opening_bracket) ts) (grammar.bracketed_host r)
sound-bracketed_host ts (Some (reading h (token (sign closing_bracket) us))) l =
    sound-before HostStep (token (sign opening_bracket) ts) us h (record { front = sign opening_bracket ∷ l.front ++ sign closing_bracket ∷ []; same = shut-same (sign closing_bracket) (sign opening_bracket) ts us l.front l.same; tree = a_bracketed_host l.tree })
sound-bracketed_host ts r l = tt

sound-host_steps : (ts us : Tokens) (h : Term) → Front HostStep ts h us → Finds Path (token (name hosts_name) ts) (host_steps h us)
sound-host_steps ts us h s =
    sound-with (FewSteps 15) Path (token (name hosts_name) ts) us (host_path h) (unbracketed (steps_of 15 us)) (sound-path_steps 15 us)
    (λ ns vs l. record { front = name hosts_name ∷ s.front ++ l.front; same = ap (token (name hosts_name)) (behind ts us vs s.front l.front s.same l.same); tree = hosts_path s.tree l.tree.0 (omega (arith, l.tree.1)) })

bare-hostvars : (ts : Tokens) → Finds Path (token (name hosts_name) ts) (before (hostvars_alone None) ts)
bare-hostvars ts = sound-before Path (token (name hosts_name) ts) ts (hostvars_alone None) (record { front = name hosts_name ∷ []; same = refl; tree = no_host })

sound-hostvars : (ts : Tokens) → Finds Path (token (name hosts_name) ts) (hostvars_of ts)
sound-hostvars (token (sign dot) ts) =
    sound-then HostStep Path (token (name hosts_name) (token (sign dot) ts)) (token (sign dot) ts) (grammar.dotted_host ts) host_steps (sound-dotted_host ts) (λ h us s. sound-host_steps (token (sign dot) ts) us h s)
sound-hostvars (token (sign opening_bracket) ts) =
    sound-then HostStep Path (token (name hosts_name) (token (sign opening_bracket) ts)) (token (sign opening_bracket) ts) (grammar.bracketed_host (term_of ts)) host_steps
    (sound-bracketed_host ts (term_of ts) (sound-term ts)) (λ h us s. sound-host_steps (token (sign opening_bracket) ts) us h s)
sound-hostvars ts = bare-hostvars ts

own-front : (n : Name) (ts us : Tokens) (ns : List Name) → bytes_eq n hosts_name ≡ false → Front (FewSteps 16) ts ns us → Front Path (token (name n) ts) (path (variable n) ns) us
own-front n ts us ns own l = record { front = name n ∷ l.front; same = ap (token (name n)) l.same; tree = own_path own l.tree.0 l.tree.1 }

sound-own : (n : Name) (ts : Tokens) (r : Option (Reading (List Name))) → bytes_eq n hosts_name ≡ false → Finds (FewSteps 16) ts r → Finds Path (token (name n) ts) (with_tree (λ ns. path (variable n) ns) r)
sound-own n ts r own h = sound-with (FewSteps 16) Path (token (name n) ts) ts (λ ns. path (variable n) ns) r h (λ ns us l. own-front n ts us ns own l)

sound-group_path : (ts : Tokens) (r : Option (Reading (List Name))) → Finds (FewSteps 16) ts r → Finds Path (token (name groups_name) ts) (group_path r)
sound-group_path ts (Some (reading ns (token (sign opening_bracket) us))) h =
    sound-in_group Path (λ g k. path (member g k) []) (token (name groups_name) ts) ns us (name groups_name ∷ h.front) (ap (token (name groups_name)) h.same)
    (λ g k is. group_place k (subst (λ ns. Steps h.front ns) is h.tree.0))
sound-group_path ts r h = sound-own groups_name ts r refl h

sound-other_name : (n : Name) (ts : Tokens) (b : Bool) → bytes_eq n hosts_name ≡ false → bytes_eq n groups_name ≡ b
    → Finds Path (token (name n) ts) (cond b (group_path (steps_of 16 ts)) (with_tree (λ ns. path (variable n) ns) (unbracketed (steps_of 16 ts))))
sound-other_name n ts true own h =
    subst (λ m. Finds Path (token (name m) ts) (group_path (steps_of 16 ts))) (sym (same_name n groups_name h)) (sound-group_path ts (steps_of 16 ts) (sound-steps 16 ts))
sound-other_name n ts false own h = sound-own n ts (unbracketed (steps_of 16 ts)) own (sound-path_steps 16 ts)

sound-name : (n : Name) (ts : Tokens) (b : Bool) → bytes_eq n hosts_name ≡ b
    → Finds Path (token (name n) ts) (cond b (hostvars_of ts) (cond (bytes_eq n groups_name) (group_path (steps_of 16 ts)) (with_tree (λ ns. path (variable n) ns) (unbracketed (steps_of 16 ts)))))
sound-name n ts true h = subst (λ m. Finds Path (token (name m) ts) (hostvars_of ts)) (sym (same_name n hosts_name h)) (sound-hostvars ts)
sound-name n ts false h = sound-other_name n ts (bytes_eq n groups_name) h refl

sound-path : (n : Name) (ts : Tokens) → Finds Path (token (name n) ts) (path_of n ts)
sound-path n ts = sound-name n ts (bytes_eq n hosts_name) refl

-- what stands before a closing token
abbrev Shut : {T : Type 0} → Token → (List Token → T → Type 0) → List Token → T → Type 0
Shut t D xs e = (ys : List Token) × (xs ≡ ys ++ t ∷ []) × D ys e

shut-front : {T : Type 0} (D : List Token → T → Type 0) (t : Token) (ts us : Tokens) (e : T) → Front D ts e (token t us) → Front (Shut t D) ts e us
shut-front D t ts us e h = record { front = h.front ++ t ∷ []; same = h.same ∙ sym (put-append h.front (t ∷ []) us); tree = (h.front, refl, h.tree) }

sound-closed : (D : Derivation) (ts : Tokens) (r : Option (Reading Expression)) → Finds D ts r → Finds (Shut (sign closing) D) ts (closed r)
sound-closed D ts (Some (reading e (token (sign closing) us))) h = sound-before (Shut (sign closing) D) ts us e (shut-front D (sign closing) ts us e h)
sound-closed D ts r h = tt

-- how what stands one level deeper is read
record SoundDeeper (d : Deeper) (D : Nested) : Type 0 where
  pub whole : Sound d.whole D.whole
  pub negated : Sound d.negated D.negated
  pub items : (ts : Tokens) → Finds (Shut (sign closing_bracket) D.items) ts (d.items ts)

sound-literal : (d : Nested) (t : Token) (ts : Tokens) → Finds (Operand d) (token t ts) (before_some (literal_of t) ts)
sound-literal d t ts = sound-some (Operand d) (token t ts) ts (literal_of t) (λ e is. record { front = t ∷ []; same = refl; tree = a_literal is })

sound-enclosed : (D : Nested) (ts us : Tokens) (e : Expression) → Front (Shut (sign closing) D.whole) ts e us → Front (Operand D) (token (sign opening) ts) e us
sound-enclosed D ts us e h =
    record { front = sign opening ∷ h.front; same = ap (token (sign opening)) h.same; tree = subst (λ xs. Operand D (sign opening ∷ xs) e) (sym h.tree.1) (enclosed h.tree.2) }

sound-list : (D : Nested) (ts us : Tokens) (es : Expressions) → Front (Shut (sign closing_bracket) D.items) ts es us → Front (Operand D) (token (sign opening_bracket) ts) (list_of es) us
sound-list D ts us es h =
    record { front = sign opening_bracket ∷ h.front; same = ap (token (sign opening_bracket)) h.same; tree = subst (λ xs. Operand D (sign opening_bracket ∷ xs) (list_of es)) (sym h.tree.1) (a_list h.tree.2) }

-- the same front of more
sound-after : {S : Type 0} (C : List Token → S → Type 0) (D : List Token → S → Type 0) (ts us : Tokens) (r : Option (Reading S)) → Finds C us r
    → ((e : S) (vs : Tokens) → Front C us e vs → Front D ts e vs) → Finds D ts r
sound-after C D ts us None h g = tt
sound-after C D ts us (Some (reading e vs)) h g = g e vs h

sound-operand_at : (d : Deeper) (D : Nested) → SoundDeeper d D → Sound (operand_at d) (Operand D)
sound-operand_at d D h finish = tt
sound-operand_at d D h unreadable = tt
sound-operand_at d D h (token (sign opening) ts) =
    sound-after (Shut (sign closing) D.whole) (Operand D) (token (sign opening) ts) ts (closed (d.whole ts)) (sound-closed D.whole ts (d.whole ts) (h.whole ts)) (λ e us l. sound-enclosed D ts us e l)
sound-operand_at d D h (token (sign opening_bracket) ts) =
    sound-with (Shut (sign closing_bracket) D.items) (Operand D) (token (sign opening_bracket) ts) ts (λ es. list_of es) (d.items ts) (h.items ts) (λ es us l. sound-list D ts us es l)
sound-operand_at d D h (token (name n) ts) =
    sound-after Path (Operand D) (token (name n) ts) (token (name n) ts) (path_of n ts) (sound-path n ts) (λ e us l. record { front = l.front; same = l.same; tree = a_path l.tree })
sound-operand_at d D h (token t ts) = sound-literal D t ts

-- one filter behind an expression, and others behind it
abbrev OneFilter : Nested → Expression → Derivation
OneFilter D e xs b = (zs : List Token) (c : Expression) → Filters D b zs c → Filters D e (xs ++ zs) c

given-filter : (D : Nested) (f : Name) (e a b : Expression) (xs : List Token) → Shut (sign closing) D.whole xs a → filter_with f e a ≡ Some b → OneFilter D e (sign bar ∷ name f ∷ sign opening ∷ xs) b
given-filter D f e a b xs h is zs c g =
    subst (λ ys. Filters D e (sign bar ∷ name f ∷ sign opening ∷ ys) c) (sym (ap (λ xs. xs ++ zs) h.1 ∙ append_assoc h.0 (sign closing ∷ []) zs)) (filter_given h.2 is g)

given-front : (D : Nested) (f : Name) (e a b : Expression) (ts us : Tokens) → Front (Shut (sign closing) D.whole) ts a us → filter_with f e a ≡ Some b
    → Front (OneFilter D e) (token (sign bar) (token (name f) (token (sign opening) ts))) b us
given-front D f e a b ts us l is =
    record { front = sign bar ∷ name f ∷ sign opening ∷ l.front; same = ap (λ ts. token (sign bar) (token (name f) (token (sign opening) ts))) l.same; tree = given-filter D f e a b l.front l.tree is }

named-front : (D : Nested) (f : Name) (e b : Expression) (ts : Tokens) → filter_named f e ≡ Some b → Front (OneFilter D e) (token (sign bar) (token (name f) ts)) b ts
named-front D f e b ts is = record { front = sign bar ∷ name f ∷ []; same = refl; tree = λ zs c g. filter is g }

sound-named : (D : Nested) (f : Name) (e : Expression) (ts : Tokens) → Finds (OneFilter D e) (token (sign bar) (token (name f) ts)) (before_some (filter_named f e) ts)
sound-named D f e ts = sound-some (OneFilter D e) (token (sign bar) (token (name f) ts)) ts (filter_named f e) (λ b is. named-front D f e b ts is)

sound-filter : (d : Deeper) (D : Nested) → SoundDeeper d D → (e : Expression) (ts : Tokens) → Finds (OneFilter D e) (token (sign bar) ts) (filter_of d e ts)
sound-filter d D h e (token (name f) (token (sign opening) ts)) =
    sound-then (Shut (sign closing) D.whole) (OneFilter D e) (token (sign bar) (token (name f) (token (sign opening) ts))) ts (closed (d.whole ts)) (λ a us. before_some (filter_with f e a) us)
    (sound-closed D.whole ts (d.whole ts) (h.whole ts))
    (λ a us l. sound-some (OneFilter D e) (token (sign bar) (token (name f) (token (sign opening) ts))) us (filter_with f e a) (λ b is. given-front D f e a b ts us l is))
sound-filter d D h e (token (name f) ts) = sound-named D f e ts
sound-filter d D h e ts = tt

filter-on : (D : Nested) (e b c : Expression) (ts us vs : Tokens) → Front (OneFilter D e) ts b us → Front (Filters D b) us c vs → Front (Filters D e) ts c vs
filter-on D e b c ts us vs l g = record { front = l.front ++ g.front; same = behind ts us vs l.front g.front l.same g.same; tree = l.tree g.front c g.tree }

sound-filtered : (d : Deeper) (D : Nested) → SoundDeeper d D → (n : ℕ) (e : Expression) (ts : Tokens) → Finds (Filters D e) ts (filtered d n e ts)
sound-filtered d D h (suc n) e (token (sign bar) ts) =
    sound-then (OneFilter D e) (Filters D e) (token (sign bar) ts) (token (sign bar) ts) (filter_of d e ts) (filtered d n) (sound-filter d D h e ts)
    (λ b us l. sound-after (Filters D b) (Filters D e) (token (sign bar) ts) us (filtered d n b us) (sound-filtered d D h n b us) (λ c vs g. filter-on D e b c (token (sign bar) ts) us vs l g))
sound-filtered d D h n e ts = record { front = []; same = refl; tree = no_filter }

filtered-front : (D : Nested) (a b : Expression) (ts us vs : Tokens) → Front (Operand D) ts a us → Front (Filters D a) us b vs → Front (Filtered D) ts b vs
filtered-front D a b ts us vs l g = record { front = l.front ++ g.front; same = behind ts us vs l.front g.front l.same g.same; tree = an_operand l.tree g.tree }

sound-operand : (d : Deeper) (D : Nested) → SoundDeeper d D → Sound (operand_of d) (Filtered D)
sound-operand d D h ts =
    sound-then (Operand D) (Filtered D) ts ts (operand_at d ts) (filtered d (count_of ts)) (sound-operand_at d D h ts)
    (λ a us l. sound-after (Filters D a) (Filtered D) ts us (filtered d (count_of ts) a us) (sound-filtered d D h (count_of ts) a us) (λ b vs g. filtered-front D a b ts us vs l g))

-- what stands on the right of a sign
sound-right : (D : Nested) (operand : Reader) → Sound operand (Filtered D) → (ts us : Tokens) (xs ys : List Token) (make : Expression → Expression) → ts ≡ put xs (put ys us)
    → ((zs : List Token) (b : Expression) → Filtered D zs b → Relation D (xs ++ (ys ++ zs)) (make b)) → Finds (Relation D) ts (with_tree make (operand us))
sound-right D f h ts us xs ys make same relate =
    sound-with (Filtered D) (Relation D) ts us make (f us) (h us) (λ b vs r. record { front = xs ++ (ys ++ r.front); same = between ts us vs xs ys r.front same r.same; tree = relate r.front b r.tree })

sound-test : (R : Derivation) (ts us : Tokens) (xs ys : List Token) (a : Expression) → ts ≡ put xs (put ys us) → ((t : Name) (e : Expression) → test_named t a ≡ Some e → R (xs ++ (ys ++ name t ∷ [])) e) → Finds R ts (test_of a us)
sound-test R ts (token (name t) us) xs ys a same h =
    sound-some R ts us (test_named t a) (λ e is. record { front = xs ++ (ys ++ name t ∷ []); same = between ts (token (name t) us) us xs ys (name t ∷ []) same refl; tree = h t e is })
sound-test R ts us xs ys a same h = tt

sound-tested : (D : Nested) (n : Name) (ts : Tokens) (a : Expression) (us : Tokens) → Front (Filtered D) ts a (token (word is_word n) us) → Finds (Relation D) ts (tested a us)
sound-tested D n ts a (token (word not_word m) us) l =
    sound-with (λ xs e. Relation D xs (negation e)) (Relation D) ts ts (λ e. negation e) (test_of a us)
    (sound-test (λ xs e. Relation D xs (negation e)) ts us l.front (word is_word n ∷ word not_word m ∷ []) a l.same (λ t e is. fails n m t l.tree is))
    (λ e vs r. record { front = r.front; same = r.same; tree = r.tree })
sound-tested D n ts a us l = sound-test (Relation D) ts us l.front (word is_word n ∷ []) a l.same (λ t e is. passes n t l.tree is)

sound-related : (D : Nested) (operand : Reader) → Sound operand (Filtered D) → (ts : Tokens) (a : Expression) (us : Tokens) → Front (Filtered D) ts a us → Finds (Relation D) ts (related operand a us)
sound-related D f h ts a (token (sign (compares c)) us) l = sound-right D f h ts us l.front (sign (compares c) ∷ []) (λ b. comparison c a b) l.same (λ zs b r. are_compared c l.tree r)
sound-related D f h ts a (token (sign differs) us) l = sound-right D f h ts us l.front (sign differs ∷ []) (λ b. negation (comparison equal a b)) l.same (λ zs b r. are_different l.tree r)
sound-related D f h ts a (token (word in_word n) us) l = sound-right D f h ts us l.front (word in_word n ∷ []) (λ b. contained a b) l.same (λ zs b r. is_in n l.tree r)
sound-related D f h ts a (token (word not_word n) (token (word in_word m) us)) l =
    sound-right D f h ts us l.front (word not_word n ∷ word in_word m ∷ []) (λ b. negation (contained a b)) l.same (λ zs b r. is_not_in n m l.tree r)
sound-related D f h ts a (token (word not_word n) us) l = tt
sound-related D f h ts a (token (word is_word n) us) l = sound-tested D n ts a us l
sound-related D f h ts a us l = record { front = l.front; same = l.same; tree = one_operand l.tree }

sound-relation : (d : Deeper) (D : Nested) → SoundDeeper d D → Sound (relation_of d) (Relation D)
sound-relation d D h ts =
    sound-then (Filtered D) (Relation D) ts ts (operand_of d ts) (related (operand_of d)) (sound-operand d D h ts) (λ a us l. sound-related D (operand_of d) (sound-operand d D h) ts a us l)

sound-negation : (d : Deeper) (D : Nested) → SoundDeeper d D → Sound (negation_of d) (Negation D)
sound-negation d D h (token (word not_word n) ts) =
    sound-with D.negated (Negation D) (token (word not_word n) ts) ts (λ e. negation e) (d.negated ts) (h.negated ts)
    (λ e us l. record { front = word not_word n ∷ l.front; same = ap (token (word not_word n)) l.same; tree = a_negation l.tree })
sound-negation d D h ts =
    sound-after (Relation D) (Negation D) ts ts (relation_of d ts) (sound-relation d D h ts) (λ e us l. record { front = l.front; same = l.same; tree = a_relation l.tree })

-- an operand, what links it, and the others
sound-more : (k : Link) (D : Derivation) (t : Token) (ts us : Tokens) (e : Expression) (rest : Tokens → Option (Reading Expressions)) → Links k t → ((ts : Tokens) → Finds (Chain k D) ts (rest ts))
    → Front D ts e (token t us) → Finds (Chain k D) ts (with_tree (λ es. expression e es) (rest us))
sound-more k D t ts us e rest link h l =
    sound-with (Chain k D) (Chain k D) ts us (λ es. expression e es) (rest us) (h us)
    (λ es vs r. record { front = l.front ++ t ∷ r.front; same = between ts us vs l.front (t ∷ []) r.front l.same r.same; tree = more link l.tree r.tree })

sound-on : (k : Link) (D : Derivation) (rest : Tokens → Option (Reading Expressions)) → ((ts : Tokens) → Finds (Chain k D) ts (rest ts)) → (ts : Tokens) (e : Expression) (us : Tokens) → Front D ts e us → Finds (Chain k D) ts (chain_on e us (behind_link k us) rest)
sound-on and_link D rest h ts e (token (word and_word n) us) l = sound-more and_link D (word and_word n) ts us e rest an_and h l
sound-on or_link D rest h ts e (token (word or_word n) us) l = sound-more or_link D (word or_word n) ts us e rest an_or h l
sound-on comma_link D rest h ts e (token (sign comma) us) l = sound-more comma_link D (sign comma) ts us e rest a_comma h l
sound-on k D rest h ts e us l = record { front = l.front; same = l.same; tree = last l.tree }

sound-chain : (k : Link) (f : Reader) (D : Derivation) → Sound f D → (n : ℕ) (ts : Tokens) → Finds (Chain k D) ts (chain_of k f n ts)
sound-chain k f D h zero ts = tt
sound-chain k f D h (suc n) ts =
    sound-then D (Chain k D) ts ts (f ts) (λ e us. chain_on e us (behind_link k us) (chain_of k f n)) (h ts) (λ e us l. sound-on k D (chain_of k f n) (λ us. sound-chain k f D h n us) ts e us l)

joined-more : (k : Link) (make : Expressions → Expression) (D : Derivation) (t : Token) (xs ys : List Token) (e : Expression) (es : Expressions) → Links k t → D xs e → Chain k D ys es → Joined k make D (xs ++ t ∷ ys) (joined make (expression e es))
joined-more k make D t xs ys e es link h (last g) = several link h (last g)
joined-more k make D t xs ys e es link h (more other g c) = several link h (more other g c)

joined-chain : (k : Link) (make : Expressions → Expression) (D : Derivation) (xs : List Token) (es : Expressions) → Chain k D xs es → Joined k make D xs (joined make es)
joined-chain k make D xs es (last h) = alone h
joined-chain k make D xs es (more {t = t} {ts = ts} {us = us} {e = e} {es = fs} link h c) = joined-more k make D t ts us e fs link h c

sound-joined : (k : Link) (make : Expressions → Expression) (f : Reader) (D : Derivation) → Sound f D → (ts : Tokens) → Finds (Joined k make D) ts (with_tree (joined make) (chain_of k f (count_of ts) ts))
sound-joined k make f D h ts =
    sound-with (Chain k D) (Joined k make D) ts ts (joined make) (chain_of k f (count_of ts) ts) (sound-chain k f D h (count_of ts) ts)
    (λ es us l. record { front = l.front; same = l.same; tree = joined-chain k make D l.front es l.tree })

sound-conjunction : (d : Deeper) (D : Nested) → SoundDeeper d D → Sound (conjunction_of d) (Conjunction D)
sound-conjunction d D h ts = sound-joined and_link (λ es. conjunction es) (negation_of d) (Negation D) (sound-negation d D h) ts

sound-disjunction : (d : Deeper) (D : Nested) → SoundDeeper d D → Sound (disjunction_of d) (Disjunction D)
sound-disjunction d D h ts = sound-joined or_link (λ es. disjunction es) (conjunction_of d) (Conjunction D) (sound-conjunction d D h) ts

sound-closed_items : (W : Derivation) (ts : Tokens) (r : Option (Reading Expressions)) → Finds (Chain comma_link W) ts r → Finds (Shut (sign closing_bracket) (Items W)) ts (closed_items r)
sound-closed_items W ts (Some (reading es (token (sign closing_bracket) us))) h =
    sound-before (Shut (sign closing_bracket) (Items W)) ts us es
    (shut-front (Items W) (sign closing_bracket) ts us es (record { front = h.front; same = h.same; tree = some_items h.tree }))
sound-closed_items W ts r h = tt

sound-items : (f : Reader) (W : Derivation) → Sound f W → (ts : Tokens) → Finds (Shut (sign closing_bracket) (Items W)) ts (items_of f ts)
sound-items f W h (token (sign closing_bracket) ts) =
    sound-before (Shut (sign closing_bracket) (Items W)) (token (sign closing_bracket) ts) ts no_expressions (record { front = sign closing_bracket ∷ []; same = refl; tree = ([], refl, no_items) })
sound-items f W h ts = sound-closed_items W ts (chain_of comma_link f (count_of ts) ts) (sound-chain comma_link f W h (count_of ts) ts)

sound-deeper : (n : ℕ) → SoundDeeper (deeper n) (nested n)
sound-deeper zero = record { whole = λ ts. tt; negated = λ ts. tt; items = λ ts. tt }
sound-deeper (suc n) = record {
  whole = sound-disjunction (deeper n) (nested n) (sound-deeper n);
  negated = sound-negation (deeper n) (nested n) (sound-deeper n);
  items = sound-items (disjunction_of (deeper n)) (Disjunction (nested n)) (sound-disjunction (deeper n) (nested n) (sound-deeper n));
}

pub listed-put : (xs : List Token) → listed (put xs finish) ≡ Some xs
listed-put [] = refl
listed-put (x ∷ xs) = ap (with_token x) (listed-put xs)

sound-all : (D : Derivation) (ts : Tokens) (r : Option (Reading Expression)) (e : Expression) → Finds D ts r → all_of r ≡ Some e → (xs : List Token) × (listed ts ≡ Some xs) × D xs e
sound-all D ts (Some (reading a finish)) e h is = (h.front, ap listed h.same ∙ listed-put h.front, subst (D h.front) (same_Some a e is) h.tree)
sound-all D ts r e h is = absurd (none-some e is)

derived-at : (n : ℕ) (ts : Tokens) (e : Expression) → all_of (disjunction_of (deeper n) ts) ≡ Some e → (xs : List Token) × (listed ts ≡ Some xs) × Derives n xs e
derived-at n ts e is = sound-all (Derives n) ts (disjunction_of (deeper n) ts) e (sound-disjunction (deeper n) (nested n) (sound-deeper n) ts) is

pub trees_are_derived : TreesAreDerived
trees_are_derived bs e is = derived-at 32 (tokens_of bs) e is
