-- One step of each of the recursions of the standard, at n + 1 as the loops have it.
use Rattle.std.proofs.Common.{◌≡◌, ℕ, zero, suc, ◌+◌, ◌-◌, ◌<◌, ◌≤◌, List, [], ◌∷◌, ◌++◌, length, get_or, take, set, sym, refl, ap, ◌∙◌, add-zero, add-suc, add-one, arith}
use Rattle.std.proofs.lemmas.List.{get_or-take, length-take-le, get_or_append_left, take_more_set, length_push}
use Rattle.std.proofs.lemmas.List.FromFn.{fill_by_all}
use Rattle.sha256_block.specs.Fips180.{Vars, word, parsed, scheduled, schedule, turn, turns, constants}

schedule_none : (b : List ℕ) → schedule 0 b ≡ parsed 16 b
unfolding schedule
schedule_none b = refl

-- the words of a block begin the list
abbrev pub Begins : List ℕ → List ℕ → Type 0
Begins w b = (t : ℕ) → t < 16 → get_or w t 0 ≡ word b t

pub begun : (w b : List ℕ) → 16 ≤ length w → Begins w b → take 16 w ≡ schedule 0 b
unfolding schedule parsed
begun w b l h = fill_by_all (word b) (take 16 w) 16 0 (length-take-le 16 w l) (λ t k. get_or-take 16 w t 0 k ∙ h t k)

schedule_suc : (n : ℕ) (b : List ℕ) → schedule (suc n) b ≡ schedule n b ++ scheduled (schedule n b) (16 + n) ∷ []
unfolding schedule
schedule_suc n b = refl

length_schedule : (n : ℕ) (b : List ℕ) → length (schedule n b) ≡ 16 + n
unfolding parsed
length_schedule zero b = ap length (schedule_none b)
length_schedule (suc n) b = ap length (schedule_suc n b) ∙ length_push (schedule n b) (scheduled (schedule n b) (16 + n)) ∙ (let e = length_schedule n b in omega arith)

-- words that are made later leave the earlier ones as they are
schedule_front : (k n t : ℕ) (b : List ℕ) → t < 16 + n → get_or (schedule (n + k) b) t 0 ≡ get_or (schedule n b) t 0
schedule_front zero n t b h = ap (λ m. get_or (schedule m b) t 0) (add-zero n)
schedule_front (suc k) n t b h =
    let l = length_schedule (n + k) b in
    ap (λ m. get_or (schedule m b) t 0) (add-suc n k)
    ∙ ap (λ s. get_or s t 0) (schedule_suc (n + k) b)
    ∙ get_or_append_left (schedule (n + k) b) (scheduled (schedule (n + k) b) (16 + (n + k)) ∷ []) 0 t (omega arith)
    ∙ schedule_front k n t b h

scheduled_take : (w : List ℕ) (t : ℕ) → 16 ≤ t → scheduled (take t w) t ≡ scheduled w t
scheduled_take w t h =
    let a : t - 2 < t = omega arith in
    let b : t - 7 < t = omega arith in
    let c : t - 15 < t = omega arith in
    let d : t - 16 < t = omega arith in
    rw (get_or-take t w (t - 2) 0 a, get_or-take t w (t - 7) 0 b, get_or-take t w (t - 15) 0 c, get_or-take t w (t - 16) 0 d)

-- one word of the schedule more
pub widen : (w b : List ℕ) (t x : ℕ) → t + 16 < length w → take (t + 16) w ≡ schedule t b → x ≡ scheduled w (t + 16) → take (t + 1 + 16) (set w (t + 16) x) ≡ schedule (t + 1) b
widen w b t x h e r =
    let i : t + 1 + 16 ≡ t + 16 + 1 = omega arith in
    let j : t + 16 ≡ 16 + t = omega arith in
    ap (λ n. take n (set w (t + 16) x)) i
    ∙ take_more_set w (t + 16) x h
    ∙ ap (λ y. take (t + 16) w ++ y ∷ []) (r ∙ sym (scheduled_take w (t + 16) (omega arith)))
    ∙ ap (λ s. s ++ scheduled s (t + 16) ∷ []) e
    ∙ ap (λ n. schedule t b ++ scheduled (schedule t b) n ∷ []) j
    ∙ sym (schedule_suc t b)
    ∙ ap (λ n. schedule n b) (sym (add-one t))

pub turns_none : (ws : List ℕ) (v : Vars) → turns 0 ws v ≡ v
unfolding turns
turns_none ws v = refl

turns_more : (n : ℕ) (ws : List ℕ) (v : Vars) → turns (n + 1) ws v ≡ turn (get_or constants n 0) (get_or ws n 0) (turns n ws v)
unfolding turns
turns_more n ws v = rw add-one

-- one round more, where n words of the schedule are made
pub turns_step : (w b : List ℕ) (v u u1 : Vars) (t n : ℕ) → n ≤ 48 → t < n + 16 → take (n + 16) w ≡ schedule n b → u ≡ turns t (schedule 48 b) v →
    u1 ≡ turn (get_or constants t 0) (get_or w t 0) u → u1 ≡ turns (t + 1) (schedule 48 b) v
turns_step w b v u u1 t n h l e p q =
    let k : n + (48 - n) ≡ 48 = omega arith in
    let at : get_or w t 0 ≡ get_or (schedule 48 b) t 0 =
    sym (get_or-take (n + 16) w t 0 l) ∙ ap (λ s. get_or s t 0) e ∙ sym (schedule_front (48 - n) n t b (omega arith)) ∙ ap (λ m. get_or (schedule m b) t 0) k in
    q ∙ ap (λ x. turn (get_or constants t 0) x u) at ∙ ap (turn (get_or constants t 0) (get_or (schedule 48 b) t 0)) p ∙ sym (turns_more t (schedule 48 b) v)
