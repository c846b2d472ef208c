-- Spaces that values share.
use Rattle.std.specs.Prelude.{◌≡◌}

-- what stands in the old space stands in the new one, and means the same there
abbrev pub Extends : {S V M : Type 0} → (S → V → Type 0) → (S → V → M) → S → S → Type 0
Extends {V = V} stands meaning old new = (v : V)
    → stands old v → stands new v × (meaning new v ≡ meaning old v)
