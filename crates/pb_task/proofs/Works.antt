-- The entries of a task that say what it does.
use Rattle.std.proofs.Common.{◌≡◌, Bool, true, false, not, ◌&&◌, ◌||◌, cond, List, [], ◌∷◌, ◌++◌, Option, Some, None, bytes_eq, codes, is_some, option_map, refl, sym, ap, ◌∙◌}
use Rattle.pb_semantics.specs.Data.{Data, Fields, no_fields, field}
use Rattle.pb_semantics.specs.Keeps.{is_among}
use Rattle.pb_language.specs.Expression.{Name}
use Rattle.pb_language.specs.Keywords.{Standing, is_left_out, keywords_of}
use Rattle.std.specs.List.{list_any}
use Rattle.pb_semantics.proofs.Bools.{untrue}
use Rattle.pb_semantics.specs.Signature.{ModuleData}
use Rattle.pb_language.specs.Book.{Registry}
use Rattle.pb_language.specs.TaskForm.{is_action, is_known_work, is_missing, keys_of, module_at, lone, without_prefix, works_in}
use Rattle.pb_task.specs.Doings.{Doing, assert_that, debug, doing_in, fail, flush, is_work, module_of, set_fact}

pub works-next : (s : Standing) (n : Name) (d : Data) (fs : Fields) → works_in s (field n d fs) ≡ cond (is_work s n) (field (without_prefix n) d (works_in s fs)) (works_in s fs)
works-next s n d fs = at (is_among n (keywords_of s)) (is_left_out s n) where
  at : (a b : Bool) → cond (a || b) (works_in s fs) (field (without_prefix n) d (works_in s fs)) ≡ cond (not a && not b) (field (without_prefix n) d (works_in s fs)) (works_in s fs)
  at true b = refl
  at false true = refl
  at false false = refl

pub is_among-joined : (q : Name) (ns ms : List Name) → is_among q (ns ++ ms) ≡ (is_among q ns || is_among q ms)
is_among-joined q [] ms = refl
is_among-joined q (n ∷ ns) ms = at (bytes_eq q n) (is_among-joined q ns ms) where
  at : (b : Bool) → is_among q (ns ++ ms) ≡ (is_among q ns || is_among q ms) → (b || is_among q (ns ++ ms)) ≡ ((b || is_among q ns) || is_among q ms)
  at true rest = refl
  at false rest = rest

-- the entry that was found, if any, before others
abbrev pub entry_before : Option (Name × Data) → Fields → Fields
entry_before None fs = fs
entry_before (Some e) fs = field e.0 e.1 fs

-- an entry with such a key comes first
pub works-yes : (s : Standing) (n m : Name) (d : Data) (fs : Fields) (b : Bool) → m ≡ n → b ≡ is_work s m → b ≡ true → works_in s (field n d fs) ≡ field (without_prefix n) d (works_in s fs)
works-yes s n m d fs b same e h =
    let yes : is_work s n ≡ true = ap (is_work s) (sym same) ∙ sym e ∙ h in
    works-next s n d fs ∙ ap (λ q. cond q (field (without_prefix n) d (works_in s fs)) (works_in s fs)) yes

pub works-no : (s : Standing) (n m : Name) (d : Data) (fs : Fields) (b : Bool) → m ≡ n → b ≡ is_work s m → b ≡ false → works_in s (field n d fs) ≡ works_in s fs
works-no s n m d fs b same e h =
    let not_so : is_work s n ≡ false = ap (is_work s) (sym same) ∙ sym e ∙ h in
    works-next s n d fs ∙ ap (λ q. cond q (field (without_prefix n) d (works_in s fs)) (works_in s fs)) not_so

pub actions-next : (s : Standing) (n : Name) (d : Data) (fs : Fields) → list_any is_action (keys_of (works_in s (field n d fs))) ≡ (is_work s n && is_action (without_prefix n)) || list_any is_action (keys_of (works_in s fs))
actions-next s n d fs = ap (λ ws. list_any is_action (keys_of ws)) (works-next s n d fs) ∙ at (is_work s n) where
  at : (q : Bool) → list_any is_action (keys_of (cond q (field (without_prefix n) d (works_in s fs)) (works_in s fs))) ≡ (q && is_action (without_prefix n)) || list_any is_action (keys_of (works_in s fs))
  at true = refl
  at false = refl

-- two entries are not one
pub lone-second : (o : Option (Name × Data)) (n : Name) (d : Data) (fs : Fields) → is_some o ≡ true → lone (entry_before o (field n d fs)) ≡ None
lone-second None n d fs h = absurd (cc)
lone-second (Some e) n d fs h = refl

pub none-before : (o : Option (Name × Data)) (fs : Fields) → is_some o ≡ false → entry_before o fs ≡ fs
none-before None fs h = refl
none-before (Some e) fs h = absurd (cc)

pub lone-before : (o : Option (Name × Data)) → lone (entry_before o no_fields) ≡ o
lone-before None = refl
lone-before (Some e) = refl

pub mapped-some : {A B : Type 0} (f : A → B) (o : Option A) → is_some (option_map f o) ≡ is_some o
mapped-some f None = refl
mapped-some f (Some a) = refl

pub is-so : (q : Bool) → false ≡ not q → q ≡ true
is-so true h = refl
is-so false h = absurd (cc)

-- what a name stands for is known
pub known_doing : (ms : Registry) (n : Name) (d : Doing) → Some d ≡ doing_in ms n → is_known_work ms n ≡ true
known_doing ms n d h = at (bytes_eq n (codes "debug")) (bytes_eq n (codes "set_fact")) (bytes_eq n (codes "fail")) (bytes_eq n (codes "assert")) (bytes_eq n (codes "meta")) (module_at n ms) h where
  at : (a b c e f : Bool) (o : Option ModuleData)
      → Some d ≡ cond a (Some debug) (cond b (Some set_fact) (cond c (Some fail) (cond e (Some assert_that) (cond f (Some flush) (option_map module_of o)))))
      → ((a || (b || (e || (c || false)))) || (f || not (is_missing o))) ≡ true
  at true b c e f o h = refl
  at false true c e f o h = refl
  at false false c true f o h = refl
  at false false true false f o h = refl
  at false false false false true o h = refl
  at false false false false false (Some m) h = refl
  at false false false false false None h = untrue (sym (ap is_some h))
