-- A reader goes on from one record to the next.
use Rattle.std.proofs.Common.{◌≡◌, ◌≢◌, ◌<◌, ◌≤◌, ℕ, zero, suc, ◌+◌, ◌-◌, List, [], ◌∷◌, ◌++◌, length, get_or, take, drop, refl, sym, ◌∙◌, ap, subst, arith, append_assoc, length-append, length-drop, take-append-drop}
use Rattle.std.proofs.lemmas.List.{append-nil, drop-drop, drop_at, drop_more, length-take-le, take_at, take_rest}
use Rattle.pb_lines.specs.Lines.{recovered, records, IsLine}
use Rattle.pb_lines.specs.Reader.{IsPlaced, IsLong}
use Rattle.pb_lines.proofs.Records.{Clean, AllClean-push, clean, closed, reads_on, records-push, recovered-record, recovered-records}

recovered_front : (file : List ℕ) (p : ℕ) → take p file ≡ records (recovered (take p file)) → recovered file ≡ recovered (take p file) ++ recovered (drop p file)
recovered_front file p front =
    ap recovered (sym (take-append-drop p file) ∙ ap (λ (l : List ℕ). l ++ drop p file) front)
    ∙ recovered-records (recovered (take p file)) (drop p file) (clean (take p file))

-- where no line is left, the place is the end of the records
pub place_at_end : (file : List ℕ) (p : ℕ) → take p file ≡ records (recovered (take p file)) → p ≤ length file → recovered (drop p file) ≡ [] → p ≡ length (records (recovered file))
place_at_end file p front inside over =
    let all : recovered file ≡ recovered (take p file) =
    recovered_front file p front ∙ ap (λ (ls : List (List ℕ)). recovered (take p file) ++ ls) over ∙ append-nil (recovered (take p file)) in
    sym (length-take-le p file inside) ∙ ap length front ∙ ap (λ (ls : List (List ℕ)). length (records ls)) (sym all)

-- one record further
module _ (file : List ℕ) (p : ℕ) (line behind : List ℕ) (front : take p file ≡ records (recovered (take p file))) (inside : p ≤ length file) (next : drop p file ≡ 32 ∷ (line ++ 10 ∷ behind)) (is_line : Clean line) where
  abbrev record_bytes : List ℕ
  record_bytes = 32 ∷ (line ++ 10 ∷ [])

  abbrev lines : List (List ℕ)
  lines = recovered (take p file) ++ line ∷ []

  length-record : length record_bytes ≡ length line + 2
  length-record = omega (arith, length-append line (10 ∷ []))

  split : drop p file ≡ record_bytes ++ behind
  split = next ∙ ap (λ (l : List ℕ). 32 ∷ l) (sym (append_assoc line (10 ∷ []) behind))

  pub drop_record : drop (p + (length line + 2)) file ≡ behind
  drop_record = sym (drop-drop (length line + 2) p file) ∙ ap (λ (l : List ℕ). drop (length line + 2) l) split ∙ drop_at record_bytes behind (length line + 2) length-record

  whole : file ≡ (records (recovered (take p file)) ++ record_bytes) ++ behind
  whole =
      sym (take-append-drop p file) ∙ ap (λ (l : List ℕ). l ++ drop p file) front ∙ ap (λ (l : List ℕ). records (recovered (take p file)) ++ l) split
      ∙ sym (append_assoc (records (recovered (take p file))) record_bytes behind)

  length-front : length (records (recovered (take p file)) ++ record_bytes) ≡ p + (length line + 2)
  length-front = omega (arith, length-append (records (recovered (take p file))) record_bytes, length-record, ap length front, length-take-le p file inside)

  take_record : take (p + (length line + 2)) file ≡ records lines
  take_record =
      ap (λ (l : List ℕ). take (p + (length line + 2)) l) whole ∙ take_at (records (recovered (take p file)) ++ record_bytes) behind (p + (length line + 2)) length-front
      ∙ sym (records-push (recovered (take p file)) line []) ∙ append-nil (records lines)

  pub front_record : take (p + (length line + 2)) file ≡ records (recovered (take (p + (length line + 2)) file))
  front_record =
      take_record
      ∙ ap records (sym (ap recovered (take_record ∙ sym (append-nil (records lines))) ∙ recovered-records lines [] (AllClean-push (recovered (take p file)) line (clean (take p file)) is_line) ∙ append-nil lines))

  pub inside_record : p + (length line + 2) ≤ length file
  inside_record = omega (arith, length-front, ap length whole, length-append (records (recovered (take p file)) ++ record_bytes) behind)

  pub line_first : recovered (drop p file) ≡ line ∷ recovered (drop (p + (length line + 2)) file)
  line_first = ap recovered next ∙ recovered-record line behind is_line ∙ ap (λ (l : List ℕ). line ∷ recovered l) (sym drop_record)

-- the record that the rest of a block begins with
module _ (file block line text : List ℕ) (place given : ℕ) (at : IsPlaced file block place given) (opens : drop given block ≡ 32 ∷ text) (ends : text ≡ line ++ 10 ∷ drop (length line + 1) text) (is_line : Clean line) where
  abbrev more : List ℕ
  more = drop (place + length block) file

  abbrev behind : List ℕ
  behind = drop (length line + 1) text ++ more

  next : drop (place + given) file ≡ 32 ∷ (line ++ 10 ∷ behind)
  next = at.rest ∙ ap (λ (l : List ℕ). l ++ more) (opens ∙ ap (λ (l : List ℕ). 32 ∷ l) ends) ∙ ap (λ (l : List ℕ). 32 ∷ l) (append_assoc line (10 ∷ drop (length line + 1) text) more)

  given_more : drop (given + (length line + 2)) block ≡ drop (length line + 1) text
  given_more =
      let two : 1 + (length line + 1) ≡ length line + 2 = omega arith in
      sym (drop-drop (length line + 2) given block) ∙ ap (λ (l : List ℕ). drop (length line + 2) l) opens
      ∙ ap (λ (n : ℕ). drop n (32 ∷ text)) (sym two) ∙ sym (drop-drop (length line + 1) 1 (32 ∷ text))

  pub at_next : IsPlaced file block place (given + (length line + 2))
  at_next =
      let sum : place + (given + (length line + 2)) ≡ place + given + (length line + 2) = omega arith in
      record {
        front = subst (λ (n : ℕ). take n file ≡ records (recovered (take n file))) (sym sum) (front_record file (place + given) line behind at.front at.inside next is_line);
        inside = omega (arith, inside_record file (place + given) line behind at.front at.inside next is_line);
        rest =
            ap (λ (n : ℕ). drop n file) sum ∙ drop_record file (place + given) line behind at.front at.inside next is_line
            ∙ ap (λ (l : List ℕ). l ++ more) (sym given_more);
      }

  pub line_of_block : recovered (drop (place + given) file) ≡ line ∷ recovered (drop (place + (given + (length line + 2))) file)
  line_of_block =
      let sum : place + given + (length line + 2) ≡ place + (given + (length line + 2)) = omega arith in
      line_first file (place + given) line behind at.front at.inside next is_line ∙ ap (λ (n : ℕ). line ∷ recovered (drop n file)) sum

drop_length-take : (n : ℕ) (l : List ℕ) → drop (length (take n l)) l ≡ drop n l
drop_length-take zero l = refl
drop_length-take (suc n) [] = refl
drop_length-take (suc n) (x ∷ l) = drop_length-take n l

nothing_taken : (n : ℕ) (l : List ℕ) → 0 < n → take n l ≡ [] → l ≡ []
nothing_taken zero l some none = absurd (omega (arith, some))
nothing_taken (suc n) [] some none = refl
nothing_taken (suc n) (x ∷ l) some none = absurd (cc none)

pub no_bytes : (l : List ℕ) → length l ≡ 0 → l ≡ []
no_bytes [] is = refl
no_bytes (x ∷ l) is = absurd (omega (arith, is))

-- more bytes behind the rest of a block
module _ (file block bytes : List ℕ) (place given most end : ℕ) (at : IsPlaced file block place given) (few : given ≤ length block) (is_end : end ≡ place + length block) (came : bytes ≡ take most (drop end file)) where
  read : bytes ≡ take most (drop (place + length block) file)
  read = came ∙ ap (λ (n : ℕ). take most (drop n file)) is_end

  follows : drop (place + length block) file ≡ bytes ++ drop (place + length block + length bytes) file
  follows =
      sym (take-append-drop most (drop (place + length block) file)) ∙ ap (λ (l : List ℕ). l ++ drop most (drop (place + length block) file)) (sym read)
      ∙ ap (λ (l : List ℕ). bytes ++ l) (sym (drop_length-take most (drop (place + length block) file)) ∙ ap (λ (l : List ℕ). drop (length l) (drop (place + length block) file)) (sym read) ∙ drop-drop (length bytes) (place + length block) file)

  pub at_more : (grown : List ℕ) → grown ≡ drop given block ++ bytes → IsPlaced file grown (place + given) 0
  at_more grown is =
      let same : place + given ≡ place + given + 0 = omega arith in
      let last : place + length block + length bytes ≡ place + given + length grown = omega (arith, few, ap length is, length-append (drop given block) bytes, length-drop given block) in
      record {
        front = subst (λ (n : ℕ). take n file ≡ records (recovered (take n file))) same at.front;
        inside = omega (arith, at.inside);
        rest =
            ap (λ (n : ℕ). drop n file) (sym same) ∙ at.rest ∙ ap (λ (l : List ℕ). drop given block ++ l) follows
            ∙ sym (append_assoc (drop given block) bytes (drop (place + length block + length bytes) file))
            ∙ ap (λ (l : List ℕ). l ++ drop (place + length block + length bytes) file) (sym is)
            ∙ ap (λ (n : ℕ). grown ++ drop n file) last;
      }

  pub at_file_end : 0 < most → length bytes ≡ 0 → drop (place + given) file ≡ drop given block
  at_file_end some none =
      let nil : bytes ≡ [] = no_bytes bytes none in
      at.rest ∙ ap (λ (l : List ℕ). drop given block ++ l) (nothing_taken most (drop (place + length block) file) some (sym read ∙ nil)) ∙ append-nil (drop given block)

-- no line is left
pub none_behind : (text : List ℕ) → Clean text → recovered (32 ∷ text) ≡ []
none_behind text is = ap (λ (l : List ℕ). recovered (32 ∷ l)) (sym (append-nil text)) ∙ reads_on [] text [] is

pub none_shut : (gate : ℕ) (rest more : List ℕ) → gate ≢ 32 → recovered ((gate ∷ rest) ++ more) ≡ []
none_shut gate rest more shut = closed gate (rest ++ more) shut

-- how far a block reaches
pub block_inside : (file block : List ℕ) (place given : ℕ) → IsPlaced file block place given → given ≤ length block → place + length block ≤ length file
block_inside file block place given at few =
    omega (arith, at.inside, few, ap length at.rest, length-append (drop given block) (drop (place + length block) file), length-drop given block, length-drop (place + given) file, length-drop (place + length block) file)

-- a text up to its first newline
pub split_at_newline : (text : List ℕ) (i : ℕ) → i < length text → get_or text i 0 ≡ 10 → text ≡ take i text ++ 10 ∷ drop (length (take i text) + 1) text
split_at_newline text i within is =
    sym (take-append-drop i text)
    ∙ ap (λ (l : List ℕ). take i text ++ l) (drop_more text i 0 within ∙ ap (λ (b : ℕ). b ∷ drop (i + 1) text) is ∙ ap (λ (n : ℕ). 10 ∷ drop (n + 1) text) (sym (length-take-le i text (omega (arith, within)))))

-- a line that is too long
pub long_line : (line rest more bytes : List ℕ) → bytes ≡ (32 ∷ (line ++ rest)) ++ more → IsLine line → 16777216 < length line → IsLong bytes
long_line line rest more bytes is is_line long = (line, rest ++ more, is ∙ ap (λ (l : List ℕ). 32 ∷ l) (append_assoc line rest more), is_line, long)

-- what of a block isn't given yet
pub rest_of_block : (block : List ℕ) (given : ℕ) → take (length block - given) (drop given block) ≡ drop given block
rest_of_block block given = take_rest block given

-- the same lines, from the same place of the same file
pub same_left : (file other : List ℕ) (p q : ℕ) → file ≡ other → p ≡ q → recovered (drop p file) ≡ recovered (drop q other)
same_left file other p q same place = ap (λ (f : List ℕ). recovered (drop p f)) same ∙ ap (λ (n : ℕ). recovered (drop n other)) place
