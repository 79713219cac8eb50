use Rattle.std.proofs.Common.{◌≡◌, ◌+◌, drop}
use Rattle.layout.specs.Words.{put_bytes}
use Rattle.layout.proofs.words.put_bytes.Given as goal

abbrev pub invariant-loop-i : goal.invariant-loop-i
invariant-loop-i g l = put_bytes l.body (l.at + l.i) (drop l.i l.bytes) ≡ put_bytes l.initial.body l.at l.bytes
