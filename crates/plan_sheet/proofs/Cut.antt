-- A sheet cut into its lines.
use Rattle.std.proofs.Common.{◌≡◌, ℕ, zero, suc, ◌+◌, ◌-◌, ◌*◌, ◌/◌, ◌<◌, Bool, ◌&&◌, eqb, List, [], ◌∷◌, ◌++◌, length, get_or, take, drop, sym, refl, ap, ◌∙◌, arith}
use Rattle.std.specs.List.{range_with_len, list_all}
use Rattle.std.specs.Slice.Iter.{chunks_exact_rest, chunks_exact_size, chunks_exact_steps}
use Rattle.std.specs.declared.slice.ChunksExact.{ChunksExact}
use Rattle.std.proofs.lemmas.Iterator.{YieldsList}
use Rattle.std.proofs.lemmas.Iterator.Splits.{YieldsList-from_shown_while}
use Rattle.std.proofs.lemmas.List.{take_at, drop_at, drop-drop, length-append, get_or-take, get_or-drop}
use Rattle.plan_sheet.specs.Checks.{fed}

-- the first k lines
abbrev pub lines : ℕ → List ℕ → List (List ℕ)
lines zero s = []
lines (suc k) s = take 25 s ∷ lines k (drop 25 s)

abbrev ends : List ℕ → Bool
ends line = eqb (get_or line 24 0) 10

abbrev left : ChunksExact ℕ → List (List ℕ)
left it = lines (length (chunks_exact_rest it) / 25) (chunks_exact_rest it)

pub yields_lines : (it : ChunksExact ℕ) → chunks_exact_size it ≡ 25 → YieldsList chunks_exact_steps (λ x. x.now) it (left it)
yields_lines it size =
    YieldsList-from_shown_while chunks_exact_steps (λ x. x.now) left (λ s. chunks_exact_size s ≡ 25)
    (λ s t p h. none (chunks_exact_rest s) (omega (arith, h.1.0)))
    (λ s x t p h. (h.0 ∙ p, some (chunks_exact_rest s) x.now (chunks_exact_rest t) h.1.0 (h.1.1 ∙ p)))
    it size
  where
    none : (s : List ℕ) → length s < 25 → length (lines (length s / 25) s) ≡ 0
    none s h = let z : length s / 25 ≡ 0 = omega arith in ap (λ k. length (lines k s)) z

    some : (s line rest : List ℕ) → s ≡ line ++ rest → length line ≡ 25 → lines (length s / 25) s ≡ line ∷ lines (length rest / 25) rest
    some s line rest e l =
        let k : length s / 25 ≡ suc (length rest / 25) = omega (arith, ap length e, length-append line rest) in
        ap (λ j. lines j s) k
        ∙ ap (λ x. take 25 x ∷ lines (length rest / 25) (drop 25 x)) e
        ∙ ap (λ x. x ∷ lines (length rest / 25) (drop 25 (line ++ rest))) (take_at line rest 25 l)
        ∙ ap (λ x. line ∷ lines (length rest / 25) x) (drop_at line rest 25 l)

-- each line has its line feed
pub fed_lines : (s : List ℕ) (i k : ℕ) → list_all ends (lines k (drop (25 * i) s)) ≡ list_all (fed s) (range_with_len (i + 1) k)
fed_lines s i zero = refl
fed_lines s i (suc k) =
    let e : (i + 1) - 1 ≡ i = omega arith in
    let n : 25 * i + 25 ≡ 25 * (i + 1) = omega arith in
    let here : get_or (take 25 (drop (25 * i) s)) 24 0 ≡ get_or s (25 * ((i + 1) - 1) + 24) 0 = get_or-take 25 (drop (25 * i) s) 24 0 (omega arith) ∙ get_or-drop (25 * i) s 24 0 ∙ ap (λ j. get_or s (25 * j + 24) 0) (sym e) in
    ap (λ x. eqb x 10 && list_all ends (lines k (drop 25 (drop (25 * i) s)))) here
    ∙ ap (λ x. fed s (i + 1) && list_all ends (lines k x)) (drop-drop 25 (25 * i) s ∙ ap (λ j. drop j s) n)
    ∙ ap (λ b. fed s (i + 1) && b) (fed_lines s (i + 1) k)

pub all_fed : (s : List ℕ) → list_all ends (lines (length s / 25) s) ≡ list_all (fed s) (range_with_len 1 (length s / 25))
all_fed s = fed_lines s 0 (length s / 25)
