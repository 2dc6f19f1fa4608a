use Rattle.std.proofs.Common.{◌≡◌, ℕ, ◌<◌, length, map}
use Rattle.keccak.specs.Fips202.{rounds}
use Rattle.keccak.proofs.rounds.permute.Given as goal

abbrev pub invariant-loop-constant : goal.invariant-loop-constant
invariant-loop-constant g l = record {
  long : length l.a ≡ 25;
  turned : (i : ℕ) → i < g.W.Word.count → map (g.W.Word.at i) l.a ≡ rounds l.constant-index (map (g.W.Word.at i) l.initial.a);
}
