-- Which batches of a book's plays these are.
use Rattle.std.specs.Prelude.{◌≡◌, ℕ, List, [], ◌∷◌, Bool, Some, drop, map, slice_get, take}
use Rattle.std.specs.List.{AllZip, list_all}
use Rattle.pb_language.specs.Book.{Registry}
use Rattle.pb_language.specs.Plays.{pattern_hosts, play_with}
use Rattle.pb_language.specs.Program.{Batch, Inventory}
use Rattle.pb_language.specs.Rules.{words_known}
use Rattle.pb_inventory.specs.Words.{names_at}
use Rattle.pb_play.specs.Words.{play_view}
use Rattle.pb_play.specs.declared.play.Play.{Play}
use Rattle.pb_batches.specs.declared.batch.PlayBatch.{PlayBatch}

-- a batch of the play of that number, with the hosts at these places
pub record IsBatchOf (ms : Registry) (i : Inventory) (plays : List Play) (n : ℕ) (places : List ℕ)
    (b : Batch) : Type 0 where
  pub play : Play
  pub is : slice_get plays n ≡ Some play
  pub denotes : b.play
      ≡ play_with ms (play_view play) (pattern_hosts i [] (play_view play).pattern)
  pub members : b.members ≡ names_at (map (λ h. h.name) i.hosts) places

-- batch by batch, and as many
abbrev pub AreBatchesOf : Registry → Inventory → List Play → List PlayBatch → List Batch → Type 0
AreBatchesOf ms i plays bs cs =
    AllZip (λ b c. IsBatchOf ms i plays b.play b.members.items c) bs cs

abbrev pub batch_view : PlayBatch → ℕ × List ℕ
batch_view b = (b.play, b.members.items)

-- the first so many, those behind them, and so on
abbrev pub cut_by : {A : Type 0} → List ℕ → List A → List (List A)
cut_by [] xs = []
cut_by (n ∷ ns) xs = take n xs ∷ cut_by ns (drop n xs)

-- each word of the play's pattern names a group or a host
abbrev pub is_known : Inventory → Play → Bool
is_known i p = words_known i (play_view p).pattern

abbrev pub are_known : Inventory → List Play → Bool
are_known i ps = list_all (is_known i) ps
