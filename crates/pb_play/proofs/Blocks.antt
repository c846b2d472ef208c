-- Sections, parts of blocks and blocks, as their steps are read one after the other.
use Rattle.std.proofs.Common.{rules, add-one, ◌+◌, ◌≡◌, ℕ, suc, Bool, true, false, cond, Option, Some, None, Ok, Err, List, [], ◌∷◌, ◌++◌, codes, bytes_eq, refl, sym, ap, ◌∙◌, append-nil}
use Rattle.std.proofs.Math.Seq.{append_snoc}
use Rattle.pb_semantics.specs.Data.{Data, Fields, Items, no_fields, field, field_value, list, null, boolean, int, text, rec, opaque, item}
use Rattle.pb_language.specs.Book.{BlockData, Registry, Steps, block_step, no_steps}
use Rattle.pb_language.specs.BookForm.{Before, Offence, Reading, and_then, block_offence, block_of, changed, part_in, part_of, section_of, step_in, steps_in, unless}
use Rattle.pb_language.specs.Expression.{Name}
use Rattle.pb_language.specs.TaskForm.{has_key}
use Rattle.pb_play.specs.Blocks.{head_read, refused_or}
use Rattle.pb_play.specs.Parts.{block_at, steps_at}
use Rattle.pb_play.specs.Plays.{head_view, step_view, steps_of, steps_view}
use Rattle.pb_play.specs.declared.play.Block.{Block}
use Rattle.pb_play.specs.declared.play.Step as Step-of
use Rattle.pb_play.specs.declared.play.Step.{Step, the_lemmas as step_lemmas}

part-of : (ms : Registry) (k l : ℕ) (d : Data) → part_of ms k l d ≡ steps_at ms k l (Some d)
part-of ms k l null = refl
part-of ms k l (boolean b) = refl
part-of ms k l (int z) = refl
part-of ms k l (text bs) = refl
part-of ms k l (list ds) = refl
part-of ms k l (rec fs) = refl
part-of ms k l opaque = refl

part-at : (p : Name) (ms : Registry) (k l : ℕ) (fs : Fields) → part_in p ms k l fs ≡ steps_at ms k l (field_value p fs)
part-at p ms k l no_fields = refl
part-at p ms k l (field n d fs) = at (bytes_eq p n) (part-at p ms k l fs) where
  at : (q : Bool) → part_in p ms k l fs ≡ steps_at ms k l (field_value p fs) → cond q (part_of ms k l d) (part_in p ms k l fs) ≡ steps_at ms k l (cond q (Some d) (field_value p fs))
  at true rest = part-of ms k l d
  at false rest = rest

pub section-at : (ms : Registry) (l : ℕ) (o : Option Data) → section_of ms l o ≡ steps_at ms 0 l o
section-at ms l None = refl
section-at ms l (Some null) = refl
section-at ms l (Some (boolean b)) = refl
section-at ms l (Some (int z)) = refl
section-at ms l (Some (text bs)) = refl
section-at ms l (Some (list ds)) = refl
section-at ms l (Some (rec fs)) = refl
section-at ms l (Some opaque) = refl

pub then-same : {A B : Type 0} (r : Reading A) (f g : A → ℕ → Reading B) → ((a : A) (n : ℕ) → f a n ≡ g a n) → and_then r f ≡ and_then r g
then-same (Err o) f g h = refl
then-same (Ok r) f g h = h r.0 r.1

pub block-there : (ms : Registry) (k l : ℕ) (fs : Fields) → has_key (codes "block") fs ≡ true → step_in ms k l (rec fs) ≡ block_at ms k l fs
block-there ms k l fs h =
    let head = block_offence k l fs in
    ap (λ q. cond q (unless l head (and_then (part_in (codes "block") ms (suc k) (suc l) fs)
    (λ body next. and_then (part_in (codes "rescue") ms (suc k) next fs)
    (λ rescue then. changed (λ always. block_step (block_of l fs) body rescue always)
    (part_in (codes "always") ms (suc k) then fs))))) (Rattle.pb_language.specs.BookForm.task_in ms k l fs)) h
    ∙ ap (λ r. unless l head (and_then r (λ body next. and_then (part_in (codes "rescue") ms (suc k) next fs)
    (λ rescue then. changed (λ always. block_step (block_of l fs) body rescue always)
    (part_in (codes "always") ms (suc k) then fs))))) (part-at (codes "block") ms (suc k) (suc l) fs)
    ∙ ap (λ r. unless l head r) (then-same (steps_at ms (suc k) (suc l) (field_value (codes "block") fs)) _ _ (λ body next.
    ap (λ r. and_then r (λ rescue then. changed (λ always. block_step (block_of l fs) body rescue always)
    (part_in (codes "always") ms (suc k) then fs))) (part-at (codes "rescue") ms (suc k) next fs)
    ∙ then-same (steps_at ms (suc k) next (field_value (codes "rescue") fs)) _ _ (λ rescue then.
    ap (changed (λ always. block_step (block_of l fs) body rescue always)) (part-at (codes "always") ms (suc k) then fs))))

-- ---- the steps of a list

-- steps that were read, in front of what is left
abbrev pub onto : List Before → Steps → Steps
onto [] ss = ss
onto (f ∷ fs) ss = f (onto fs ss)

pub onto-nothing : (r : Reading Steps) → r ≡ changed (onto []) r
onto-nothing (Err o) = refl
onto-nothing (Ok r) = refl

pub onto-push : (fs : List Before) (f : Before) (r : Reading Steps) → changed (onto fs) (changed f r) ≡ changed (onto (fs ++ f ∷ [])) r
onto-push fs f (Err o) = refl
onto-push fs f (Ok r) = ap (λ ss. Ok (ss, r.1)) (at fs) where
  at : (fs : List Before) → onto fs (f r.0) ≡ onto (fs ++ f ∷ []) r.0
  at [] = refl
  at (g ∷ gs) = ap g (at gs)

pub onto-none : (fs : List Before) (r : Reading Steps) (o : Offence) → r ≡ Err o → changed (onto fs) r ≡ Err o
onto-none fs r o h = ap (changed (onto fs)) h

pub step-first : (ms : Registry) (k l : ℕ) (d : Data) (ds : Items) (f : Before) (n : ℕ) → step_in ms k l d ≡ Ok (f, n) → steps_in ms k l (item d ds) ≡ changed f (steps_in ms k n ds)
step-first ms k l d ds f n h = ap (λ r. and_then r (λ before next. changed before (steps_in ms k next ds))) h

pub step-refused : (ms : Registry) (k l : ℕ) (d : Data) (ds : Items) (o : Offence) → step_in ms k l d ≡ Err o → steps_in ms k l (item d ds) ≡ Err o
step-refused ms k l d ds o h = ap (λ r. and_then r (λ before next. changed before (steps_in ms k next ds))) h

-- ---- a block by what is read of it

abbrev at_part : Registry → ℕ → ℕ → Name → Fields → Reading Steps
at_part ms k l n fs = steps_at ms k l (field_value n fs)

-- what is read behind the head of a block
abbrev behind : Registry → ℕ → ℕ → BlockData → Fields → Reading Before
behind ms k l b fs = and_then (at_part ms k l (codes "block") fs)
    (λ body next. and_then (at_part ms k next (codes "rescue") fs)
    (λ rescue then. changed (λ always. block_step b body rescue always) (at_part ms k then (codes "always") fs)))

unless-refused : {A B : Type 0} (l : ℕ) (q : Option ℕ) (a : A) (r : Reading B) (o : Offence) → refused_or l q a ≡ Err o → unless l q r ≡ Err o
unless-refused l None a r o h = absurd (cc)
unless-refused l (Some n) a r o h =
    let same : ◌≡◌ {A = Offence} (record { line = l; code = n }) o = cc in
    ap (λ x. Err x) same

pub unless-read : {A B : Type 0} (l : ℕ) (q : Option ℕ) (a x : A) (f : A → Reading B) → refused_or l q a ≡ Ok x → unless l q (f a) ≡ f x
unless-read l None a x f h =
    let same : a ≡ x = cc in
    ap f same
unless-read l (Some n) a x f h = absurd (cc)

pub head-refused : (ms : Registry) (k l : ℕ) (fs : Fields) (o : Offence) → head_read k l fs ≡ Err o → block_at ms k l fs ≡ Err o
head-refused ms k l fs o h = unless-refused l (block_offence k l fs) (block_of l fs) (behind ms (suc k) (suc l) (block_of l fs) fs) o h

head-read : (ms : Registry) (k l : ℕ) (fs : Fields) (b : BlockData) → head_read k l fs ≡ Ok b → block_at ms k l fs ≡ behind ms (suc k) (suc l) b fs
head-read ms k l fs b h = unless-read l (block_offence k l fs) (block_of l fs) b (λ x. behind ms (suc k) (suc l) x fs) h

pub body-refused : (ms : Registry) (k l : ℕ) (fs : Fields) (b : BlockData) (o : Offence) → head_read k l fs ≡ Ok b
    → steps_at ms (suc k) (suc l) (field_value (codes "block") fs) ≡ Err o → block_at ms k l fs ≡ Err o
body-refused ms k l fs b o h e = head-read ms k l fs b h ∙ ap (λ r. and_then r (λ body next. and_then (at_part ms (suc k) next (codes "rescue") fs)
    (λ rescue then. changed (λ always. block_step b body rescue always) (at_part ms (suc k) then (codes "always") fs)))) e

behind-body : (ms : Registry) (k l n : ℕ) (fs : Fields) (b : BlockData) (xs : Steps) → head_read k l fs ≡ Ok b
    → steps_at ms (suc k) (suc l) (field_value (codes "block") fs) ≡ Ok (xs, n)
    → block_at ms k l fs ≡ and_then (at_part ms (suc k) n (codes "rescue") fs) (λ rescue then. changed (λ always. block_step b xs rescue always) (at_part ms (suc k) then (codes "always") fs))
behind-body ms k l n fs b xs h e = head-read ms k l fs b h ∙ ap (λ r. and_then r (λ body next. and_then (at_part ms (suc k) next (codes "rescue") fs)
    (λ rescue then. changed (λ always. block_step b body rescue always) (at_part ms (suc k) then (codes "always") fs)))) e

pub rescue-refused : (ms : Registry) (k l n : ℕ) (fs : Fields) (b : BlockData) (xs : Steps) (o : Offence) → head_read k l fs ≡ Ok b
    → steps_at ms (suc k) (suc l) (field_value (codes "block") fs) ≡ Ok (xs, n) → steps_at ms (suc k) n (field_value (codes "rescue") fs) ≡ Err o → block_at ms k l fs ≡ Err o
rescue-refused ms k l n fs b xs o h e g = behind-body ms k l n fs b xs h e
    ∙ ap (λ r. and_then r (λ rescue then. changed (λ always. block_step b xs rescue always) (at_part ms (suc k) then (codes "always") fs))) g

behind-rescue : (ms : Registry) (k l n m : ℕ) (fs : Fields) (b : BlockData) (xs ys : Steps) → head_read k l fs ≡ Ok b
    → steps_at ms (suc k) (suc l) (field_value (codes "block") fs) ≡ Ok (xs, n) → steps_at ms (suc k) n (field_value (codes "rescue") fs) ≡ Ok (ys, m)
    → block_at ms k l fs ≡ changed (λ always. block_step b xs ys always) (at_part ms (suc k) m (codes "always") fs)
behind-rescue ms k l n m fs b xs ys h e g = behind-body ms k l n fs b xs h e
    ∙ ap (λ r. and_then r (λ rescue then. changed (λ always. block_step b xs rescue always) (at_part ms (suc k) then (codes "always") fs))) g

pub always-refused : (ms : Registry) (k l n m : ℕ) (fs : Fields) (b : BlockData) (xs ys : Steps) (o : Offence) → head_read k l fs ≡ Ok b
    → steps_at ms (suc k) (suc l) (field_value (codes "block") fs) ≡ Ok (xs, n) → steps_at ms (suc k) n (field_value (codes "rescue") fs) ≡ Ok (ys, m)
    → steps_at ms (suc k) m (field_value (codes "always") fs) ≡ Err o → block_at ms k l fs ≡ Err o
always-refused ms k l n m fs b xs ys o h e g w = behind-rescue ms k l n m fs b xs ys h e g ∙ ap (changed (λ always. block_step b xs ys always)) w

pub block-read : (ms : Registry) (k l n m j : ℕ) (fs : Fields) (b : BlockData) (xs ys zs : Steps) → head_read k l fs ≡ Ok b
    → steps_at ms (suc k) (suc l) (field_value (codes "block") fs) ≡ Ok (xs, n) → steps_at ms (suc k) n (field_value (codes "rescue") fs) ≡ Ok (ys, m)
    → steps_at ms (suc k) m (field_value (codes "always") fs) ≡ Ok (zs, j) → block_at ms k l fs ≡ Ok (block_step b xs ys zs, j)
block-read ms k l n m j fs b xs ys zs h e g w = behind-rescue ms k l n m fs b xs ys h e g ∙ ap (changed (λ always. block_step b xs ys always)) w

-- ---- lists that are read one after the other

pub more-read : {A : Type 0} (done : List A) (a : A) (r : Reading (List A)) → changed (λ xs. done ++ xs) (changed (λ xs. a ∷ xs) r) ≡ changed (λ xs. (done ++ a ∷ []) ++ xs) r
more-read done a (Err o) = refl
more-read done a (Ok r) = ap (λ xs. Ok (xs, r.1)) (sym (append_snoc done a r.0))

pub all-read : {A : Type 0} (done : List A) (n : ℕ) → changed (λ xs. done ++ xs) (Ok ([], n)) ≡ Ok (done, n)
all-read done n = ap (λ xs. Ok (xs, n)) (append-nil done)

-- ---- parts as the code finds them

pub part-first : (ms : Registry) (k l : ℕ) (o p : Option Data) → o ≡ p → steps_at ms (suc k) (suc l) p ≡ steps_at ms (k + 1) (l + 1) o
part-first ms k l o p e = rw (add-one k, add-one l) (ap (steps_at ms (suc k) (suc l)) (sym e))

pub part-next : (ms : Registry) (k n : ℕ) (o p : Option Data) → o ≡ p → steps_at ms (suc k) n p ≡ steps_at ms (k + 1) n o
part-next ms k n o p e = rw (add-one k) (ap (steps_at ms (suc k) n) (sym e))

-- steps that were all read
pub onto-all : (fs : List Before) (n : ℕ) → changed (onto fs) (Ok (no_steps, n)) ≡ Ok (steps_of fs, n)
onto-all fs n = ap (λ ss. Ok (ss, n)) (at fs) where
  at : (fs : List Before) → onto fs no_steps ≡ steps_of fs
  at [] = refl
  at (g ∷ gs) = ap g (at gs)

-- what a block of steps is
pub view-block : (b : Block Step) → step_view (Step-of.Block b) ≡ block_step (head_view b.head) (steps_view b.body.items) (steps_view b.rescue.items) (steps_view b.always.items)
view-block b = search (rules, step_lemmas)
