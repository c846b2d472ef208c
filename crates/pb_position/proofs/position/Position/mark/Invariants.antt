use Rattle.std.proofs.Common.{◌≡◌, ◌||◌, ℕ, take, length, get_or, false}
use Rattle.pb_language.specs.Machine.{is_marked}
use Rattle.pb_position.proofs.position.Position.mark.Given as goal

abbrev pub invariant-loop-number : goal.invariant-loop-number
invariant-loop-number l = record {
  marked : (n : ℕ) → get_or l.self.marks.items n false ≡ is_marked n (take l.number-index l.notified.items) || get_or l.initial.self.marks.items n false;
  rest : record l.self { marks = l.initial.self.marks } ≡ l.initial.self;
  handlers : length l.self.marks.items ≡ length l.initial.self.marks.items;
}
