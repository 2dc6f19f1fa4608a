-- A message that is taken in by blocks of n bytes, where F gives the value after a block from the value before it.
use Rattle.std.specs.Prelude.{ℕ, zero, suc, ◌+◌, cond, List, [], ◌∷◌, ◌++◌, length, take, drop, ◌==◌}

-- the value after the whole blocks, and the bytes of the block that is not whole
pub record Chain : Type 0 where
  pub value : List ℕ
  pub tail : List ℕ

abbrev pub link : List ℕ → List ℕ → Chain
link v t = record { value = v; tail = t }

module _ (n : ℕ) (F : List ℕ → List ℕ → List ℕ) where
  -- the value after the first k blocks of m
  unfoldable pub over : ℕ → List ℕ → List ℕ → List ℕ
  over zero v m = v
  over (suc k) v m = over k (F v (take n m)) (drop n m)

  -- one byte more
  unfoldable pub stepped : Chain → ℕ → Chain
  stepped s b = cond (length s.tail + 1 == n) (link (F s.value (s.tail ++ b ∷ [])) []) (link s.value (s.tail ++ b ∷ []))

  -- some bytes more
  unfoldable pub chained : Chain → List ℕ → Chain
  chained s [] = s
  chained s (b ∷ bs) = chained (stepped s b) bs
