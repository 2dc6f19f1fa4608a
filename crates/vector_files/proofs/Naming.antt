-- A set of names beside the lines of a block.
use Rattle.std.proofs.Common.{◌≡◌, ℕ, List, [], ◌∷◌, ◌++◌, Bool, true, false, cond, ◌||◌, ap, sym, ◌∙◌, refl, Bor, nat_cmp}
use Rattle.std.specs.Cmp.Lexicographic.{slice_cmp}
use Rattle.std.specs.BTreeSet.{BTreeSet, contains_by, UpdatesBy}
use Rattle.std.specs.Str.{bytes_eq}
use Rattle.std.proofs.lemmas.List.Folds.{list_any-append}
use Rattle.std.proofs.lemmas.Map.Text.{is_eq-slice_cmp}
use Rattle.vector_files.specs.Field.{NamedValue, Lines}
use Rattle.vector_files.specs.Blocks.{has_name, AreNamesOf}

either : (b : Bool) (a : Bool) → cond b true a ≡ (a || (b || false))
either true true = refl
either true false = refl
either false true = refl
either false false = refl

-- one name more
pub names_more : (old new : BTreeSet (Bor (List ℕ))) (block : Lines) (key : Bor (List ℕ)) (line : NamedValue) → AreNamesOf old block → key.now ≡ line.name
    → UpdatesBy (λ x y. slice_cmp nat_cmp x.now y.now) (λ k. slice_cmp nat_cmp key.now k.now) old new true → AreNamesOf new (block ++ line ∷ [])
names_more old new block key line names same updates name =
    let at : Bor (List ℕ) = record { ref_ptr = (0, 0); now = name } in
    updates.0 at ∙ ap (λ b. cond b true (contains_by (λ k. slice_cmp nat_cmp name k.now) old)) (is_eq-slice_cmp key.now name ∙ ap (λ n. bytes_eq n name) same) ∙ ap (cond (bytes_eq line.name name) true) (names name)
    ∙ either (bytes_eq line.name name) (has_name block name) ∙ sym (list_any-append (λ (l : NamedValue). bytes_eq l.name name) block (line ∷ []))
