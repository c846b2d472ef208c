-- The plays of a book and the sections of a play, as they are read one after the other.
use Rattle.std.proofs.Common.{◌≡◌, ℕ, suc, true, false, Option, Some, None, unwrap_or, Ok, Err, List, ◌∷◌, codes, nat_lt, refl, sym, ap, ◌∙◌}
use Rattle.pb_semantics.specs.Data.{Data, Fields, Items, field_value, rec, item}
use Rattle.pb_language.specs.Book.{HandlerData, PlayData, Registry, Steps}
use Rattle.pb_language.specs.BookForm.{Offence, Reading, and_then, changed, gathering_in, handlers_of, most_lines, play_in, play_of, play_offence, plays_in, refused_at, section_of, unless}
use Rattle.pb_language.specs.TaskForm.{code_where, vars_found}
use Rattle.pb_language.specs.Expression.{no_parts}
use Rattle.pb_play.specs.Blocks.{refused_or}
use Rattle.pb_play.specs.Heads.{Head, play_head_read, play_head_with}
use Rattle.pb_play.specs.Parts.{steps_at}
use Rattle.pb_play.specs.Sections.{Sections, gathering_at, play_with, sections_in, sections_with}
use Rattle.pb_play.proofs.Blocks.{section-at, then-same}

-- ---- the line of the task that gathers facts

pub gathering-long : (l : ℕ) → nat_lt most_lines l ≡ true → gathering_at l true ≡ refused_at l 8
gathering-long l h = ap (λ b. unless l (code_where b 8 None) (Ok (Some l, suc l))) h

pub gathering-there : (l : ℕ) → nat_lt most_lines l ≡ false → gathering_at l true ≡ Ok (Some l, suc l)
gathering-there l h = ap (λ b. unless l (code_where b 8 None) (Ok (Some l, suc l))) h

-- ---- the sections

abbrev then_post : Registry → Fields → Steps → Steps → ℕ → Reading Sections
then_post ms fs pre tasks c = and_then (steps_at ms 0 c (field_value (codes "post_tasks") fs)) (λ post d.
    changed (sections_with pre tasks post) (handlers_of ms d (field_value (codes "handlers") fs)))

abbrev then_tasks : Registry → Fields → Steps → ℕ → Reading Sections
then_tasks ms fs pre b = and_then (steps_at ms 0 b (field_value (codes "tasks") fs)) (λ tasks c. then_post ms fs pre tasks c)

pub pre-refused : (ms : Registry) (l : ℕ) (fs : Fields) (o : Offence) → steps_at ms 0 l (field_value (codes "pre_tasks") fs) ≡ Err o → sections_in ms l fs ≡ Err o
pre-refused ms l fs o h = ap (λ r. and_then r (λ pre b. then_tasks ms fs pre b)) h

behind-pre : (ms : Registry) (l b : ℕ) (fs : Fields) (xs : Steps) → steps_at ms 0 l (field_value (codes "pre_tasks") fs) ≡ Ok (xs, b) → sections_in ms l fs ≡ then_tasks ms fs xs b
behind-pre ms l b fs xs h = ap (λ r. and_then r (λ pre b. then_tasks ms fs pre b)) h

pub tasks-refused : (ms : Registry) (l b : ℕ) (fs : Fields) (xs : Steps) (o : Offence) → steps_at ms 0 l (field_value (codes "pre_tasks") fs) ≡ Ok (xs, b)
    → steps_at ms 0 b (field_value (codes "tasks") fs) ≡ Err o → sections_in ms l fs ≡ Err o
tasks-refused ms l b fs xs o h e = behind-pre ms l b fs xs h ∙ ap (λ r. and_then r (λ tasks c. then_post ms fs xs tasks c)) e

behind-tasks : (ms : Registry) (l b c : ℕ) (fs : Fields) (xs ys : Steps) → steps_at ms 0 l (field_value (codes "pre_tasks") fs) ≡ Ok (xs, b)
    → steps_at ms 0 b (field_value (codes "tasks") fs) ≡ Ok (ys, c) → sections_in ms l fs ≡ then_post ms fs xs ys c
behind-tasks ms l b c fs xs ys h e = behind-pre ms l b fs xs h ∙ ap (λ r. and_then r (λ tasks c. then_post ms fs xs tasks c)) e

pub post-refused : (ms : Registry) (l b c : ℕ) (fs : Fields) (xs ys : Steps) (o : Offence) → steps_at ms 0 l (field_value (codes "pre_tasks") fs) ≡ Ok (xs, b)
    → steps_at ms 0 b (field_value (codes "tasks") fs) ≡ Ok (ys, c) → steps_at ms 0 c (field_value (codes "post_tasks") fs) ≡ Err o → sections_in ms l fs ≡ Err o
post-refused ms l b c fs xs ys o h e g = behind-tasks ms l b c fs xs ys h e
    ∙ ap (λ r. and_then r (λ post d. changed (sections_with xs ys post) (handlers_of ms d (field_value (codes "handlers") fs)))) g

behind-post : (ms : Registry) (l b c d : ℕ) (fs : Fields) (xs ys zs : Steps) → steps_at ms 0 l (field_value (codes "pre_tasks") fs) ≡ Ok (xs, b)
    → steps_at ms 0 b (field_value (codes "tasks") fs) ≡ Ok (ys, c) → steps_at ms 0 c (field_value (codes "post_tasks") fs) ≡ Ok (zs, d)
    → sections_in ms l fs ≡ changed (sections_with xs ys zs) (handlers_of ms d (field_value (codes "handlers") fs))
behind-post ms l b c d fs xs ys zs h e g = behind-tasks ms l b c fs xs ys h e
    ∙ ap (λ r. and_then r (λ post d. changed (sections_with xs ys post) (handlers_of ms d (field_value (codes "handlers") fs)))) g

pub handlers-refused : (ms : Registry) (l b c d : ℕ) (fs : Fields) (xs ys zs : Steps) (o : Offence) → steps_at ms 0 l (field_value (codes "pre_tasks") fs) ≡ Ok (xs, b)
    → steps_at ms 0 b (field_value (codes "tasks") fs) ≡ Ok (ys, c) → steps_at ms 0 c (field_value (codes "post_tasks") fs) ≡ Ok (zs, d)
    → handlers_of ms d (field_value (codes "handlers") fs) ≡ Err o → sections_in ms l fs ≡ Err o
handlers-refused ms l b c d fs xs ys zs o h e g w = behind-post ms l b c d fs xs ys zs h e g ∙ ap (changed (sections_with xs ys zs)) w

pub sections-read : (ms : Registry) (l b c d n : ℕ) (fs : Fields) (xs ys zs : Steps) (hs : List HandlerData) → steps_at ms 0 l (field_value (codes "pre_tasks") fs) ≡ Ok (xs, b)
    → steps_at ms 0 b (field_value (codes "tasks") fs) ≡ Ok (ys, c) → steps_at ms 0 c (field_value (codes "post_tasks") fs) ≡ Ok (zs, d)
    → handlers_of ms d (field_value (codes "handlers") fs) ≡ Ok (hs, n) → sections_in ms l fs ≡ Ok (sections_with xs ys zs hs, n)
sections-read ms l b c d n fs xs ys zs hs h e g w = behind-post ms l b c d fs xs ys zs h e g ∙ ap (changed (sections_with xs ys zs)) w

-- ---- a play

-- the sections of the definition are read so
abbrev sectioned : Registry → ℕ → Fields → Option ℕ → ℕ → Reading PlayData
sectioned ms l fs gathering a =
    and_then (section_of ms a (field_value (codes "pre_tasks") fs)) (λ pre b.
    and_then (section_of ms b (field_value (codes "tasks") fs)) (λ tasks c.
    and_then (section_of ms c (field_value (codes "post_tasks") fs)) (λ post d.
    changed (play_of l gathering fs pre tasks post) (handlers_of ms d (field_value (codes "handlers") fs)))))

abbrev play_by : ℕ → Fields → Option ℕ → Sections → PlayData
play_by l fs gathering s = play_of l gathering fs s.pre_tasks s.tasks s.post_tasks s.handlers

changed-then : {A B C : Type 0} (f : B → C) (r : Reading A) (k : A → ℕ → Reading B) → changed f (and_then r k) ≡ and_then r (λ a n. changed f (k a n))
changed-then f (Err o) k = refl
changed-then f (Ok r) k = refl

changed-twice : {A B C : Type 0} (f : B → C) (g : A → B) (r : Reading A) → changed f (changed g r) ≡ changed (λ a. f (g a)) r
changed-twice f g (Err o) = refl
changed-twice f g (Ok r) = refl

sections-by : (ms : Registry) (l a : ℕ) (fs : Fields) (gathering : Option ℕ) → sectioned ms l fs gathering a ≡ changed (play_by l fs gathering) (sections_in ms a fs)
sections-by ms l a fs gathering =
    ap (λ r. and_then r (λ pre b. and_then (section_of ms b (field_value (codes "tasks") fs)) (λ tasks c. and_then (section_of ms c (field_value (codes "post_tasks") fs)) (λ post d.
    changed (play_of l gathering fs pre tasks post) (handlers_of ms d (field_value (codes "handlers") fs)))))) (section-at ms a (field_value (codes "pre_tasks") fs))
    ∙ then-same (steps_at ms 0 a (field_value (codes "pre_tasks") fs)) _ _ (λ pre b.
    ap (λ r. and_then r (λ tasks c. and_then (section_of ms c (field_value (codes "post_tasks") fs)) (λ post d.
    changed (play_of l gathering fs pre tasks post) (handlers_of ms d (field_value (codes "handlers") fs))))) (section-at ms b (field_value (codes "tasks") fs))
    ∙ then-same (steps_at ms 0 b (field_value (codes "tasks") fs)) _ _ (λ tasks c.
    ap (λ r. and_then r (λ post d. changed (play_of l gathering fs pre tasks post) (handlers_of ms d (field_value (codes "handlers") fs)))) (section-at ms c (field_value (codes "post_tasks") fs))
    ∙ then-same (steps_at ms 0 c (field_value (codes "post_tasks") fs)) _ _ (λ post d.
    sym (changed-twice (play_by l fs gathering) (sections_with pre tasks post) (handlers_of ms d (field_value (codes "handlers") fs))))
    ∙ sym (changed-then (play_by l fs gathering) (steps_at ms 0 c (field_value (codes "post_tasks") fs)) (λ post d. changed (sections_with pre tasks post) (handlers_of ms d (field_value (codes "handlers") fs)))))
    ∙ sym (changed-then (play_by l fs gathering) (steps_at ms 0 b (field_value (codes "tasks") fs)) (λ tasks c. then_post ms fs pre tasks c)))
    ∙ sym (changed-then (play_by l fs gathering) (steps_at ms 0 a (field_value (codes "pre_tasks") fs)) (λ pre b. then_tasks ms fs pre b))

-- a play, with what is read of it
abbrev read_by : Registry → ℕ → Fields → Reading (Option ℕ) → Reading PlayData
read_by ms l fs g = and_then g (λ gathering a. changed (play_by l fs gathering) (sections_in ms a fs))

play-by : (ms : Registry) (i l : ℕ) (fs : Fields) → play_in ms i l (rec fs) ≡ unless l (play_offence i l fs) (read_by ms l fs (gathering_in (suc l) fs))
play-by ms i l fs = ap (λ r. unless l (play_offence i l fs) r) (then-same (gathering_in (suc l) fs) _ _ (λ gathering a. sections-by ms l a fs gathering))

unless-err : {A B : Type 0} (l : ℕ) (q : Option ℕ) (a : A) (r : Reading B) (o : Offence) → refused_or l q a ≡ Err o → unless l q r ≡ Err o
unless-err l None a r o h = absurd (cc)
unless-err l (Some n) a r o h = let same : ◌≡◌ {A = Offence} (record { line = l; code = n }) o = cc in ap (λ x. Err x) same

pub play-refused : (ms : Registry) (i l : ℕ) (fs : Fields) (o : Offence) → play_head_read i l fs ≡ Err o → play_in ms i l (rec fs) ≡ Err o
play-refused ms i l fs o h =
    play-by ms i l fs ∙ unless-err l (play_offence i l fs) (play_head_with (unwrap_or (vars_found (field_value (codes "vars") fs)) no_parts) fs) (read_by ms l fs (gathering_in (suc l) fs)) o h

unless-ok : {A B : Type 0} (l : ℕ) (q : Option ℕ) (a x : A) (r : Reading B) → refused_or l q a ≡ Ok x → (unless l q r ≡ r) × (a ≡ x)
unless-ok l None a x r h = (refl, (cc))
unless-ok l (Some n) a x r h = absurd (cc)

-- the head's fields are those of the play
head-read : (ms : Registry) (i l : ℕ) (fs : Fields) (h : Head) → play_head_read i l fs ≡ Ok h
    → (play_in ms i l (rec fs) ≡ read_by ms l fs (gathering_in (suc l) fs)) × (play_head_with (unwrap_or (vars_found (field_value (codes "vars") fs)) no_parts) fs ≡ h)
head-read ms i l fs h e =
    let p = unless-ok l (play_offence i l fs) (play_head_with (unwrap_or (vars_found (field_value (codes "vars") fs)) no_parts) fs) h (read_by ms l fs (gathering_in (suc l) fs)) e in
    (play-by ms i l fs ∙ p.0, p.1)

with-head : (l : ℕ) (fs : Fields) (gathering : Option ℕ) (s : Sections) (h : Head) → play_head_with (unwrap_or (vars_found (field_value (codes "vars") fs)) no_parts) fs ≡ h → play_by l fs gathering s ≡ play_with l h gathering s
with-head l fs gathering s h e = ap (λ (x : Head). play_with l x gathering s) e

gathers-so : (i l : ℕ) (fs : Fields) (h : Head) → play_head_with (unwrap_or (vars_found (field_value (codes "vars") fs)) no_parts) fs ≡ h → gathering_in (suc l) fs ≡ gathering_at (suc l) h.gathers
gathers-so i l fs h e = ap (λ (x : Head). gathering_at (suc l) x.gathers) e

pub gathering-refused : (ms : Registry) (i l : ℕ) (fs : Fields) (h : Head) (o : Offence) → play_head_read i l fs ≡ Ok h → gathering_at (suc l) h.gathers ≡ Err o → play_in ms i l (rec fs) ≡ Err o
gathering-refused ms i l fs h o e g =
    let p = head-read ms i l fs h e in
    p.0 ∙ ap (read_by ms l fs) (gathers-so i l fs h p.1 ∙ g)

pub sections-refused : (ms : Registry) (i l a : ℕ) (fs : Fields) (h : Head) (gathering : Option ℕ) (o : Offence) → play_head_read i l fs ≡ Ok h → gathering_at (suc l) h.gathers ≡ Ok (gathering, a)
    → sections_in ms a fs ≡ Err o → play_in ms i l (rec fs) ≡ Err o
sections-refused ms i l a fs h gathering o e g s =
    let p = head-read ms i l fs h e in
    p.0 ∙ ap (read_by ms l fs) (gathers-so i l fs h p.1 ∙ g) ∙ ap (changed (play_by l fs gathering)) s

pub play-read : (ms : Registry) (i l a n : ℕ) (fs : Fields) (h : Head) (gathering : Option ℕ) (s : Sections) → play_head_read i l fs ≡ Ok h → gathering_at (suc l) h.gathers ≡ Ok (gathering, a)
    → sections_in ms a fs ≡ Ok (s, n) → play_in ms i l (rec fs) ≡ Ok (play_with l h gathering s, n)
play-read ms i l a n fs h gathering s e g w =
    let p = head-read ms i l fs h e in
    p.0 ∙ ap (read_by ms l fs) (gathers-so i l fs h p.1 ∙ g) ∙ ap (changed (play_by l fs gathering)) w ∙ ap (λ x. Ok (x, n)) (with-head l fs gathering s h p.1)

-- ---- the plays of a list

pub play-first : (ms : Registry) (i l n : ℕ) (d : Data) (ds : Items) (p : PlayData) → play_in ms i l d ≡ Ok (p, n) → plays_in ms i l (item d ds) ≡ changed (λ ps. p ∷ ps) (plays_in ms (suc i) n ds)
play-first ms i l n d ds p h = ap (λ r. and_then r (λ play next. changed (λ plays. play ∷ plays) (plays_in ms (suc i) next ds))) h

pub play-first-refused : (ms : Registry) (i l : ℕ) (d : Data) (ds : Items) (o : Offence) → play_in ms i l d ≡ Err o → plays_in ms i l (item d ds) ≡ Err o
play-first-refused ms i l d ds o h = ap (λ r. and_then r (λ play next. changed (λ plays. play ∷ plays) (plays_in ms (suc i) next ds))) h
