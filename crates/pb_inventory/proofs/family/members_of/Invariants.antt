use Rattle.std.proofs.Common.{◌≡◌, ◌≤◌, length}
use Rattle.std.specs.List.{All}
use Rattle.pb_inventory.specs.Families.{AreBelow, lists_of}
use Rattle.pb_inventory.proofs.Fills.{IsFilled}
use Rattle.pb_inventory.proofs.family.members_of.Given as goal

abbrev pub invariant-loop-place : goal.invariant-loop-place
invariant-loop-place l = record {
  filled : IsFilled (lists_of l.own) (lists_of l.children) l.order l.place (lists_of l.members.items);
  count : length l.members.items ≡ length l.children;
  known : AreBelow l.hosts l.members.items;
  size : length l.seen.items ≡ l.hosts;
  stamps : All (λ s. l.place ≤ s) l.seen.items;
}
