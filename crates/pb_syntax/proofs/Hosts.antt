-- Hosts, and the paths that begin with them, at the tokens of the code.
use Rattle.std.proofs.Common.{◌≡◌, ℕ, List, [], ◌∷◌, true, false, codes, Option, Some, None, refl, sym, ap, ◌∙◌}
use Rattle.std.proofs.lemmas.Bool.{cond-true, cond-false}
use Rattle.std.specs.Option.{option_map}
use Rattle.std.specs.Str.{bytes_eq}
use Rattle.pb_language.specs.Expression.{Name, named_host, group_member, path, variable, member}
use Rattle.pb_language.specs.Grammar.{Reading, reading, before_some, dotted_host, group_path, group_term, in_group, letters_of, path_of, steps_of, unbracketed, with_tree}
use Rattle.pb_language.specs.Tokens.{Tokens, finish, unreadable, token, sign, digits, closing_bracket}
use Rattle.pb_syntax.specs.Forms.{member_of, name_behind}
use Rattle.pb_syntax.specs.Letters.{letters_at, tokens_at}
use Rattle.pb_syntax.specs.declared.lexer.Sort.TheVariants as sort
use Rattle.pb_syntax.specs.declared.lexer.Token.{Token as Place}
use Rattle.pb_syntax.proofs.Sorts.{behind, of_sort}

pub path-groups : (bs : List ℕ) (t u : Place) → bytes_eq (letters_at bs t) (codes "hostvars") ≡ false → bytes_eq (letters_at bs t) (codes "groups") ≡ true → tokens_at bs u ≡ behind bs t
    → path_of (letters_at bs t) (behind bs t) ≡ group_path (steps_of 16 (tokens_at bs u))
path-groups bs t u other is next =
    cond-false (bytes_eq (letters_at bs t) (codes "hostvars")) _ _ other ∙ cond-true (bytes_eq (letters_at bs t) (codes "groups")) _ _ is
    ∙ ap (λ ts. group_path (steps_of 16 ts)) (sym next)

pub path-variable : (bs : List ℕ) (t u : Place) → bytes_eq (letters_at bs t) (codes "hostvars") ≡ false → bytes_eq (letters_at bs t) (codes "groups") ≡ false → tokens_at bs u ≡ behind bs t
    → path_of (letters_at bs t) (behind bs t) ≡ with_tree (λ ns. path (variable (letters_at bs t)) ns) (unbracketed (steps_of 16 (tokens_at bs u)))
path-variable bs t u other also next =
    cond-false (bytes_eq (letters_at bs t) (codes "hostvars")) _ _ other ∙ cond-false (bytes_eq (letters_at bs t) (codes "groups")) _ _ also
    ∙ ap (λ ts. with_tree (λ ns. path (variable (letters_at bs t)) ns) (unbracketed (steps_of 16 ts))) (sym next)

mapped : {S T : Type 0} (f : S → T) (o : Option S) (ts : Tokens) → before_some (option_map f o) ts ≡ with_tree f (before_some o ts)
mapped f None ts = refl
mapped f (Some n) finish = refl
mapped f (Some n) unreadable = refl
mapped f (Some n) (token t ts) = refl

pub dotted-named : (ts : Tokens) → dotted_host ts ≡ with_tree (λ n. named_host n) (name_behind ts)
dotted-named finish = refl
dotted-named unreadable = refl
dotted-named (token t ts) = mapped (λ n. named_host n) (letters_of t) ts

-- a host of a group
pub group-made : {T : Type 0} (make : Name → ℕ → T) (ns : List Name) (ts : Tokens) → in_group make ns ts ≡ with_tree (λ m. make m.0 m.1) (member_of ns ts)
group-made make (g ∷ []) (token (digits k) (token (sign closing_bracket) finish)) = refl
group-made make (g ∷ []) (token (digits k) (token (sign closing_bracket) unreadable)) = refl
group-made make (g ∷ []) (token (digits k) (token (sign closing_bracket) (token t ts))) = refl
group-made make ns ts = refl

pub group-term : (bs : List ℕ) (ns : List Name) (r : Option (Reading (List Name))) (t : Place) → r ≡ Some (reading ns (tokens_at bs t)) → t.sort ≡ sort.OpenBracket
    → group_term r ≡ with_tree (λ m. group_member m.0 m.1) (member_of ns (behind bs t))
group-term bs ns r t h is = ap group_term h ∙ ap (λ ts. group_term (Some (reading ns ts))) (of_sort bs t sort.OpenBracket is) ∙ group-made (λ g k. group_member g k) ns (behind bs t)

pub group-path : (bs : List ℕ) (ns : List Name) (r : Option (Reading (List Name))) (t : Place) → r ≡ Some (reading ns (tokens_at bs t)) → t.sort ≡ sort.OpenBracket
    → group_path r ≡ with_tree (λ m. path (member m.0 m.1) []) (member_of ns (behind bs t))
group-path bs ns r t h is = ap group_path h ∙ ap (λ ts. group_path (Some (reading ns ts))) (of_sort bs t sort.OpenBracket is) ∙ group-made (λ g k. path (member g k) []) ns (behind bs t)
