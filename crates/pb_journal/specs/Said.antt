-- What a line of a journal says of a run, up to the data that its values stand for.
use Rattle.std.specs.Prelude.{ℕ, pos, negsuc, List, [], ◌∷◌, map, Option, Some, None, option_map}
use Rattle.std.specs.Prelude.{option_and_then, if◌then◌else◌, codes, Bool, true, ◌||◌, is_some}
use Rattle.std.specs.Prelude.{unwrap_or}
use Rattle.std.specs.Str.{bytes_eq}
use Rattle.pb_semantics.specs.Data.{Data, null, boolean, int, text, list, rec, opaque, Items}
use Rattle.pb_semantics.specs.Data.{no_items, item, Fields, no_fields, field, field_value}
use Rattle.pb_semantics.specs.Data.{put_field}
use Rattle.pb_value.specs.FromJson.{json_data}
use Rattle.pb_value.specs.View.{view}
use Rattle.pb_finish.specs.declared.answer.Answer.{Answer}
use Rattle.pb_finish.specs.declared.answer.Answer.TheVariants as answers
use Rattle.pb_finish.specs.declared.answer.Why.{Why}
use Rattle.pb_finish.specs.declared.answer.Why.TheVariants as whys
use Rattle.pb_run.specs.declared.event.Event.{Event}
use Rattle.pb_run.specs.declared.event.Event.TheVariants as events

-- what a module answered to a call
pub data Told : Type 0 where
  object : Data → Told
  unreachable : Told
  broken : Why → Told

-- what happened
pub data Said : Type 0 where
  start : ℕ → Said
  give : ℕ → List Told → Said
  turn : Said
  stop : Said

abbrev pub told_by : Answer → Told
told_by (answers.Object v) = object (view v)
told_by answers.Unreachable = unreachable
told_by (answers.Broken why) = broken why

abbrev pub said_by : Event → Said
said_by (events.Start k) = start k
said_by (events.Give k rs) = give k (map told_by rs.items)
said_by events.Turn = turn
said_by events.Stop = stop

abbrev pub why_word : Why → List ℕ
why_word whys.NotJson = codes "not json"
why_word whys.TooLong = codes "too long"
why_word whys.NoAnswer = codes "no answer"
why_word whys.TooSlow = codes "too slow"

abbrev pub one_field : List ℕ → Data → Data
one_field name d = rec (field name d no_fields)

abbrev pub as_fields : Data → Option Fields
as_fields (rec fs) = Some fs
as_fields (list ds) = None
as_fields (text w) = None
as_fields null = None
as_fields (boolean b) = None
as_fields (int z) = None
as_fields opaque = None

abbrev pub has_field : List ℕ → Fields → Bool
has_field name fs = is_some (field_value name fs)

abbrev pub has_mark : Fields → Bool
has_mark fs = has_field (codes "object") fs || has_field (codes "unreachable") fs
    || has_field (codes "broken") fs

-- whether a value, written as it is, would be read as something else than an object that was given
abbrev pub is_marked : Data → Bool
is_marked d = unwrap_or (option_map has_mark (as_fields d)) true

-- an object as it was given, but where it would be read as something else
abbrev pub told_data : Told → Data
told_data (object d) = if is_marked d then one_field (codes "object") d else d
told_data unreachable = one_field (codes "unreachable") (boolean true)
told_data (broken why) = one_field (codes "broken") (text (why_word why))

abbrev pub told_items : List Told → Items
told_items [] = no_items
told_items (t ∷ ts) = item (told_data t) (told_items ts)

abbrev pub word_why : List ℕ → Option Why
word_why w =
    if bytes_eq w (codes "not json") then Some whys.NotJson
    else (if bytes_eq w (codes "too long") then Some whys.TooLong
    else (if bytes_eq w (codes "no answer") then Some whys.NoAnswer
    else (if bytes_eq w (codes "too slow") then Some whys.TooSlow else None)))

abbrev pub as_items : Data → Option Items
as_items (list ds) = Some ds
as_items (text w) = None
as_items null = None
as_items (boolean b) = None
as_items (int z) = None
as_items (rec fs) = None
as_items opaque = None

abbrev pub as_text : Data → Option (List ℕ)
as_text (text w) = Some w
as_text (list ds) = None
as_text null = None
as_text (boolean b) = None
as_text (int z) = None
as_text (rec fs) = None
as_text opaque = None

-- the place of a host
abbrev pub as_place : Data → Option ℕ
as_place (int (pos k)) = Some k
as_place (int (negsuc k)) = None
as_place (text w) = None
as_place (list ds) = None
as_place null = None
as_place (boolean b) = None
as_place (rec fs) = None
as_place opaque = None

abbrev pub broken_of : Data → Option Told
broken_of d = option_map broken (option_and_then word_why (as_text d))

-- by the fields `object`, `unreachable` and `broken`, and else the whole
abbrev pub told_among : Option Data → Option Data → Option Data → Data → Option Told
told_among (Some d) u b whole = Some (object d)
told_among None (Some d) b whole = Some unreachable
told_among None None (Some d) whole = broken_of d
told_among None None None whole = Some (object whole)

abbrev pub told_in : Data → Fields → Option Told
told_in whole fs = told_among (field_value (codes "object") fs)
    (field_value (codes "unreachable") fs) (field_value (codes "broken") fs) whole

abbrev pub told_of : Data → Option Told
told_of d = option_and_then (told_in d) (as_fields d)

abbrev pub all_told : Items → Option (List Told)
all_told no_items = Some []
all_told (item d ds) =
    option_and_then (λ t. option_map (λ ts. t ∷ ts) (all_told ds)) (told_of d)

abbrev pub word_at : Fields → Option (List ℕ)
word_at fs = option_and_then as_text (field_value (codes "event") fs)

abbrev pub place_at : Fields → Option ℕ
place_at fs = option_and_then as_place (field_value (codes "host") fs)

abbrev pub answers_at : Fields → Option Items
answers_at fs = option_and_then as_items (field_value (codes "answers") fs)

abbrev pub give_in : Fields → Option Said
give_in fs = option_and_then (λ k. option_map (give k)
    (option_and_then all_told (answers_at fs))) (place_at fs)

abbrev pub said_word : List ℕ → Fields → Option Said
said_word w fs =
    if bytes_eq w (codes "start") then option_map start (place_at fs)
    else (if bytes_eq w (codes "give") then give_in fs
    else (if bytes_eq w (codes "turn") then Some turn
    else (if bytes_eq w (codes "stop") then Some stop else None)))

abbrev pub said_in : Fields → Option Said
said_in fs = option_and_then (λ w. said_word w fs) (word_at fs)

-- what a value says of a run, where it says something
abbrev pub said_of : Data → Option Said
said_of d = option_and_then said_in (as_fields d)

-- what a line says
abbrev pub said_on : List ℕ → Option Said
said_on line = option_and_then said_of (json_data line)

-- what is said, put over other fields
abbrev pub said_onto : Said → Fields → Fields
said_onto (start k) fs = put_field (codes "event") (text (codes "start"))
    (put_field (codes "host") (int (pos k)) fs)
said_onto (give k ts) fs = put_field (codes "event") (text (codes "give"))
    (put_field (codes "host") (int (pos k))
    (put_field (codes "answers") (list (told_items ts)) fs))
said_onto turn fs = put_field (codes "event") (text (codes "turn")) fs
said_onto stop fs = put_field (codes "event") (text (codes "stop")) fs
