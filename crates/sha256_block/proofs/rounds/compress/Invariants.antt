use Rattle.std.proofs.Common.{◌≡◌, ℕ, ◌+◌, ◌<◌, List, map, length, take}
use Rattle.sha256_block.specs.Fips180.{schedule, turns, vars}
use Rattle.sha256_block.proofs.Steps.{Begins}
use Rattle.sha256_block.proofs.rounds.compress.Given as goal

abbrev pub invariant-loop-t : goal.invariant-loop-t
invariant-loop-t g l = record {
  long : length l.words ≡ 64;
  made : (i : ℕ) (b : List ℕ) → i < g.W.Word.count → Begins (map (g.W.Word.at i) l.initial.words) b →
      take (l.t + 16) (map (g.W.Word.at i) l.words) ≡ schedule l.t b;
  turned : (i : ℕ) (b : List ℕ) → i < g.W.Word.count → Begins (map (g.W.Word.at i) l.initial.words) b →
      vars (map (g.W.Word.at i) l.variables) ≡ turns l.t (schedule 48 b) (vars (map (g.W.Word.at i) l.hash));
}

abbrev pub invariant-loop-t-2 : goal.invariant-loop-t-2
invariant-loop-t-2 g l = (i : ℕ) (b : List ℕ) → i < g.W.Word.count → Begins (map (g.W.Word.at i) l.fn.words) b →
    vars (map (g.W.Word.at i) l.variables) ≡ turns (48 + l.t) (schedule 48 b) (vars (map (g.W.Word.at i) l.hash))
