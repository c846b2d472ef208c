-- Which hosts of pb_machine's machine a position describes.
use Rattle.std.specs.Prelude.{◌≡◌, ℕ, length, false, get_or}
use Rattle.pb_language.specs.Machine.{is_marked}
use Rattle.pb_machine.specs.Hosts as flat
use Rattle.pb_machine.specs.Hosts.{FlatHost, stands}
use Rattle.pb_position.specs.declared.position.Location.{Location}
use Rattle.pb_position.specs.declared.position.Location.TheVariants.{End, Left, Node}
use Rattle.pb_position.specs.declared.position.Position.{Position}
use Rattle.pb_position.specs.Texts.{text_of, texts_of}

abbrev pub location_view : Location → flat.Location
location_view End = flat.at_end
location_view Left = flat.left_play
location_view (Node n) = flat.at n

-- how many handlers have room for a mark
abbrev pub handlers_of : Position → ℕ
handlers_of p = length p.marks.items

-- the marks and the texts of failures are the host's
pub record IsAs (p : Position) (h : FlatHost) : Type 0 where
  pub marks : (n : ℕ) → get_or p.marks.items n false ≡ is_marked n h.marks
  pub failure : text_of p.failure ≡ h.failure
  pub rescues : texts_of p.rescues.items ≡ h.rescues
  pub holds : texts_of p.holds.items ≡ h.holds

-- and the host stands there
pub record IsAt (p : Position) (h : FlatHost) : Type 0 where
  pub «as» : IsAs p h
  pub stage : h.stage ≡ stands (location_view p.location)
