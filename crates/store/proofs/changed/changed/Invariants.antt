use Rattle.std.proofs.Common.{◌≡◌, ◌+◌, ◌≤◌, ◌++◌, length}
use Rattle.table.specs.Slots.{items}
use Rattle.journal.specs.Plans.{changes}
use Rattle.journal.specs.Restart.{paired}
use Rattle.store.proofs.changed.changed.Given as goal

-- the changes so far, with those that are left, are all changes
abbrev pub invariant-loop-i : goal.invariant-loop-i
invariant-loop-i l = record {
  whole : length (items l.rows) ≡ length (items l.blocks);
  few : length (items l.blocks) ≤ l.i-iterator.count;
  left : l.i-iterator.count + length l.i-iterator.iter.a.rest.now ≡ 25;
  both : length l.i-iterator.iter.a.rest.now ≡ length l.i-iterator.iter.b.rest.now;
  all : paired (items l.blocks) (items l.rows) ++ changes (26 + l.i-iterator.count) l.i-iterator.iter.a.rest.now l.i-iterator.iter.b.rest.now ≡ changes 26 l.old l.new;
}
