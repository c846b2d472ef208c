-- The hosts of a play, cut by the sizes of its batches, are its batches.
use Rattle.std.proofs.Common.{◌≡◌, ◌≤◌, ◌<◌, ℕ, zero, suc, ◌+◌, ◌-◌, List, [], ◌∷◌, ◌++◌, Some, length, map, take, drop, sum, slice_get, refl, sym, ap, subst, ◌∙◌, append_assoc, arith}
use Rattle.std.specs.List.{All, AllZip}
use Rattle.std.proofs.lemmas.List.{append-nil, length-map, take-map, drop-map}
use Rattle.std.proofs.lemmas.List.Elements.{All-append, All-cons, All-drop, All-head, All-map, All-nil, All-tail, All-take}
use Rattle.std.proofs.lemmas.List.Sums.{sum_by-cons}
use Rattle.pb_language.specs.Book.{Cut, PlayData, Registry}
use Rattle.pb_language.specs.Expression.{Name}
use Rattle.pb_language.specs.Plays.{batches_for, cut_hosts, first_hosts, first_size, next_cuts, other_hosts, pattern_hosts, play_with, program_of}
use Rattle.pb_language.specs.Program as program
use Rattle.pb_language.specs.Program.{Batch, Inventory, all_batches, batches_of}
use Rattle.pb_inventory.specs.Words.{name_of, names_at}
use Rattle.pb_play.specs.Words.{cut_view, play_view}
use Rattle.pb_play.specs.declared.play.Play.{Play}
use Rattle.pb_batches.specs.Batches.{AreBatchesOf, IsBatchOf, batch_view, cut_by}
use Rattle.pb_batches.specs.declared.batch.PlayBatch.{PlayBatch}

-- ---- cut by the lengths of its batches

first-taken : (k : ℕ) (hs : List Name) → take (length (first_hosts k hs)) hs ≡ first_hosts k hs
first-taken zero hs = refl
first-taken (suc k) [] = refl
first-taken (suc k) (h ∷ hs) = ap (λ xs. h ∷ xs) (first-taken k hs)

others-left : (k : ℕ) (hs : List Name) → drop (length (first_hosts k hs)) hs ≡ other_hosts k hs
others-left zero hs = refl
others-left (suc k) [] = refl
others-left (suc k) (h ∷ hs) = others-left k hs

-- at the sizes of its batches a list is cut into them
cut-whole : (n k : ℕ) (cs : List Cut) (hs : List Name) → cut_by (map length (cut_hosts n k cs hs)) hs ≡ cut_hosts n k cs hs
cut-whole n zero cs hs = refl
cut-whole n (suc k) cs [] = refl
cut-whole n (suc k) cs (h ∷ hs) =
    let m = first_size n cs - 1 in
    let sizes = map length (cut_hosts n k (next_cuts cs) (other_hosts m hs)) in
    ap (λ (xs : List Name). (h ∷ xs) ∷ cut_by sizes (drop (length (first_hosts m hs)) hs)) (first-taken m hs)
    ∙ ap (λ (xs : List Name). (h ∷ first_hosts m hs) ∷ cut_by sizes xs) (others-left m hs)
    ∙ ap (λ (xs : List (List Name)). (h ∷ first_hosts m hs) ∷ xs) (cut-whole n k (next_cuts cs) (other_hosts m hs))

both-few : (k : ℕ) (hs : List Name) → length (first_hosts k hs) + length (other_hosts k hs) ≤ length hs
both-few zero hs = omega arith
both-few (suc k) [] = omega arith
both-few (suc k) (h ∷ hs) = let i = both-few k hs in omega (arith, i)

-- and there are enough hosts for them
whole-few : (n k : ℕ) (cs : List Cut) (hs : List Name) → sum (map length (cut_hosts n k cs hs)) ≤ length hs
whole-few n zero cs hs = omega arith
whole-few n (suc k) cs [] = omega arith
whole-few n (suc k) cs (h ∷ hs) =
    let m = first_size n cs - 1 in
    let rest = cut_hosts n k (next_cuts cs) (other_hosts m hs) in
    let few = whole-few n k (next_cuts cs) (other_hosts m hs) in
    let both = both-few m hs in
    let all : sum (suc (length (first_hosts m hs)) ∷ map length rest) ≡ suc (length (first_hosts m hs)) + sum (map length rest) = sum_by-cons (λ x. x) (suc (length (first_hosts m hs))) (map length rest) in
    omega (arith, few, both, all)

pub sizes-few : (cs : List Cut) (ns : List Name) (places sizes : List ℕ) → ((hs : List Name) → length hs ≡ length places → sizes ≡ map length (batches_for cs hs)) → sum sizes ≤ length places
sizes-few cs ns places sizes h =
    let hs = names_at ns places in
    let same : length hs ≡ length places = length-map places (name_of ns) in
    let few = whole-few (length hs) (length hs) cs hs in
    omega (arith, few, same, ap sum (h hs same))

-- ---- parts of a list

pub map-cut : {A B : Type 0} (f : A → B) (ns : List ℕ) (xs : List A) → map (map f) (cut_by ns xs) ≡ cut_by ns (map f xs)
map-cut f [] xs = refl
map-cut f (n ∷ ns) xs =
    ap (λ ys. ys ∷ map (map f) (cut_by ns (drop n xs))) (sym (take-map f n xs))
    ∙ ap (λ yss. take n (map f xs) ∷ yss) (map-cut f ns (drop n xs) ∙ ap (cut_by ns) (sym (drop-map f n xs)))

-- what holds of all holds in each part
pub cut-all : {A : Type 0} (P : A → Type 0) (ns : List ℕ) (xs : List A) → All P xs → All (All P) (cut_by ns xs)
cut-all P [] xs h = All-nil (All P)
cut-all P (n ∷ ns) xs h = All-cons (All P) (take n xs) (cut_by ns (drop n xs)) (All-take P n xs h) (cut-all P ns (drop n xs) (All-drop P n xs h))

zip-append : {A B : Type 0} (R : A → B → Type 0) (xs xs' : List A) (ys ys' : List B) → AllZip R xs ys → AllZip R xs' ys' → AllZip R (xs ++ xs') (ys ++ ys')
zip-append R [] xs' [] ys' h k = k
zip-append R (x ∷ xs) xs' (y ∷ ys) ys' h k = (h.0, zip-append R xs xs' ys ys' h.1 k)
zip-append R [] xs' (y ∷ ys) ys' h k = absurd h
zip-append R (x ∷ xs) xs' [] ys' h k = absurd h

-- ---- the batches of plays

pub all-more : (ms : Registry) (i : Inventory) (ps : List PlayData) (p : PlayData) → all_batches (program_of ms i (ps ++ p ∷ []))
    ≡ all_batches (program_of ms i ps) ++ batches_of (play_with ms p (pattern_hosts i [] p.pattern)) (play_with ms p (pattern_hosts i [] p.pattern)).batches
all-more ms i [] p = append-nil (batches_of (play_with ms p (pattern_hosts i [] p.pattern)) (play_with ms p (pattern_hosts i [] p.pattern)).batches)
all-more ms i (q ∷ ps) p =
    let first = batches_of (play_with ms q (pattern_hosts i [] q.pattern)) (play_with ms q (pattern_hosts i [] q.pattern)).batches in
    ap (λ bs. first ++ bs) (all-more ms i ps p) ∙ sym (append_assoc first (all_batches (program_of ms i ps)) (batches_of (play_with ms p (pattern_hosts i [] p.pattern)) (play_with ms p (pattern_hosts i [] p.pattern)).batches))

module _ (ms : Registry) (i : Inventory) (plays : List Play) where
  abbrev names : List Name
  names = map (λ h. h.name) i.hosts

  abbrev IsPair : ℕ × List ℕ → Batch → Type 0
  IsPair p b = IsBatchOf ms i plays p.0 p.1 b

  abbrev pub ArePairs : List (ℕ × List ℕ) → List Batch → Type 0
  ArePairs ps bs = AllZip IsPair ps bs

  abbrev plays_as : Play → program.Play
  plays_as play = play_with ms (play_view play) (pattern_hosts i [] (play_view play).pattern)

  parts-are : (n : ℕ) (play : Play) → slice_get plays n ≡ Some play → (parts : List (List ℕ)) → ArePairs (map (λ part. (n, part)) parts) (batches_of (plays_as play) (map (names_at names) parts))
  parts-are n play is [] = tt
  parts-are n play is (part ∷ parts) = (record { play = play; is = is; denotes = refl; members = refl }, parts-are n play is parts)

  -- those of one play
  pub play-pairs : (n : ℕ) (play : Play) (places sizes : List ℕ) → slice_get plays n ≡ Some play → names_at names places ≡ pattern_hosts i [] (play_view play).pattern
      → ((hs : List Name) → length hs ≡ length places → sizes ≡ map length (batches_for (map cut_view play.serial.items) hs))
      → ArePairs (map (λ part. (n, part)) (cut_by sizes places)) (batches_of (plays_as play) (plays_as play).batches)
  play-pairs n play places sizes is hosts cut =
      let cs = map cut_view play.serial.items in
      let hs = names_at names places in
      let sized : sizes ≡ map length (batches_for cs hs) = cut hs (length-map places (name_of names)) in
      let same : map (names_at names) (cut_by sizes places) ≡ (plays_as play).batches =
      map-cut (name_of names) sizes places ∙ ap (λ ns. cut_by ns hs) sized ∙ cut-whole (length hs) (length hs) cs hs ∙ ap (batches_for cs) hosts in
      subst (λ (gs : List (List Name)). ArePairs (map (λ part. (n, part)) (cut_by sizes places)) (batches_of (plays_as play) gs)) same (parts-are n play is (cut_by sizes places))

  -- those of one play more
  pub more-pairs : (n : ℕ) (play : Play) (ps : List PlayData) (olds news more : List (ℕ × List ℕ)) → news ≡ olds ++ more → ArePairs olds (all_batches (program_of ms i ps)) → ArePairs more (batches_of (plays_as play) (plays_as play).batches)
      → ArePairs news (all_batches (program_of ms i (ps ++ play_view play ∷ [])))
  more-pairs n play ps olds news more e h k =
      rw (e, all-more ms i ps (play_view play)) (zip-append IsPair olds more (all_batches (program_of ms i ps)) (batches_of (plays_as play) (plays_as play).batches) h k)

  -- batches that are kept
  pub are-batches : (bs : List PlayBatch) (cs : List Batch) → ArePairs (map batch_view bs) cs → AreBatchesOf ms i plays bs cs
  are-batches [] [] h = tt
  are-batches (b ∷ bs) (c ∷ cs) h = (h.0, are-batches bs cs h.1)
  are-batches [] (c ∷ cs) h = h
  are-batches (b ∷ bs) [] h = h

-- ---- each batch

-- its play is one of so many, and its hosts are
abbrev pub IsWithin : ℕ → ℕ → ℕ × List ℕ → Type 0
IsWithin plays hosts b = (b.0 < plays) × All (λ h. h < hosts) b.1

pub parts-within : (plays hosts n : ℕ) (places sizes : List ℕ) → n < plays → All (λ h. h < hosts) places → All (IsWithin plays hosts) (map (λ part. (n, part)) (cut_by sizes places))
parts-within plays hosts n places sizes lt all =
    let parts = cut-all (λ h. h < hosts) sizes places all in
    All-map (IsWithin plays hosts) (λ (part : List ℕ). (n, part)) (cut_by sizes places) (λ k d h. (lt, parts k d h))

pub more-within : (plays hosts : ℕ) (olds news more : List (ℕ × List ℕ)) → news ≡ olds ++ more → All (IsWithin plays hosts) olds → All (IsWithin plays hosts) more → All (IsWithin plays hosts) news
more-within plays hosts olds news more e h k = rw e (All-append (IsWithin plays hosts) olds more h k)

pub each-within : (plays hosts : ℕ) (bs : List PlayBatch) → All (IsWithin plays hosts) (map batch_view bs) → All (λ b. IsWithin plays hosts (batch_view b)) bs
each-within plays hosts [] h = All-nil (λ b. IsWithin plays hosts (batch_view b))
each-within plays hosts (b ∷ bs) h =
    All-cons (λ b. IsWithin plays hosts (batch_view b)) b bs (All-head (IsWithin plays hosts) (batch_view b) (map batch_view bs) h) (each-within plays hosts bs (All-tail (IsWithin plays hosts) (batch_view b) (map batch_view bs) h))
