-- What the steps of a play use: the slots of variables, and the numbers of handlers.
use Rattle.std.specs.Prelude.{◌≡◌, ◌⊎◌, ℕ, List, [], ◌∷◌, ◌++◌, Contains, Some, true}
use Rattle.pb_semantics.specs.Keeps.{is_among}
use Rattle.pb_language.specs.Expression.{Name}
use Rattle.pb_language.specs.Notify.{HandlerNames, all_notified, handlers_are}
use Rattle.pb_language.specs.Task.{Task}
use Rattle.pb_reads.specs.Uses.{Reads, written_by}
use Rattle.pb_slots.specs.Slots.{slot_in}
use Rattle.pb_steps.specs.declared.step.Step.{Step}

abbrev pub Among : List Name → Name → Type 0
Among ns n = is_among n ns ≡ true

abbrev pub Writes : Task → Name → Type 0
Writes t = Among (written_by t)

abbrev pub Uses : Task → Name → Type 0
Uses t n = Reads t n ⊎ Writes t n

abbrev pub SomeUses : List Task → Name → Type 0
SomeUses [] n = ⊥
SomeUses (t ∷ ts) n = Uses t n ⊎ SomeUses ts n

-- the names that were there are still there, and beside them those of which that is so, and no
-- others
pub record Adds (Is : Name → Type 0) (old new : List Name) : Type 0 where
  pub kept : (n : Name) → Among old n → Among new n
  pub whole : (n : Name) → Is n → Among new n
  pub sound : (n : Name) → Among new n → Among old n ⊎ Is n

-- among those names, the slots of the ones of which that is so, and no others
pub record AreSlotsOf (names : List Name) (Is : Name → Type 0) (slots : List ℕ) : Type 0 where
  pub whole : (n : Name) (i : ℕ) → Is n → slot_in names n ≡ Some i → Contains slots i
  pub sound : (i : ℕ) → Contains slots i → (n : Name) × (Is n) × (slot_in names n ≡ Some i)

-- a step knows the slots of the variables that its task reads, and of those that it writes, and the
-- handlers that its texts notify, in the play's numbers
pub record IsUsed (names : List Name) (hs : List HandlerNames) (s : Step) (t : Task) : Type 0 where
  pub reads : AreSlotsOf names (Reads t) s.reads.items
  pub writes : AreSlotsOf names (Writes t) s.writes.items
  pub notifies : (is : List ℕ) → all_notified hs t.notifies ≡ handlers_are is
      → s.notifies.items ≡ is

abbrev pub AreUsed : List Name → List HandlerNames → List Step → List Task → Type 0
AreUsed names hs [] [] = Unit {0}
AreUsed names hs (s ∷ ss) (t ∷ ts) = IsUsed names hs s t × AreUsed names hs ss ts
AreUsed names hs ss ts = ⊥
