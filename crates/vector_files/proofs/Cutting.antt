-- Lines of a text, taken into a block one after the other.
use Rattle.std.proofs.Common.{◌≡◌, ◌≢◌, ℕ, length-append, zero, suc, ◌+◌, ◌<◌, List, [], ◌∷◌, ◌++◌, length, map, get_or, Bool, true, false, not, cond, ◌||◌, ◌==◌, All, AllPairs, Option, None, ap, sym, ◌∙◌, refl, subst, arith, rules, Bor}
use Rattle.std.specs.Prelude.{filter, option_to_list}
use Rattle.std.specs.List.{enumerate_from, slice_split, onto_first}
use Rattle.std.specs.Str.{bytes_eq}
use Rattle.std.specs.Str.Lines.{lines}
use Rattle.std.proofs.lemmas.Bool.Decides.{nat_tests}
use Rattle.std.proofs.lemmas.List.{map-append, append-nil}
use Rattle.std.proofs.lemmas.List.FromFn.{length-enumerate_from}
use Rattle.std.proofs.lemmas.List.Elements.{filter-append, All-append, All-push}
use Rattle.std.proofs.lemmas.List.Quantifiers.{all_pairs_push}
use Rattle.std.proofs.lemmas.Slice.Eq.{bytes_eq-Decides}
use Rattle.vector_files.specs.Field.{NamedValue, Lines}
use Rattle.vector_files.specs.Blocks.{HasValue, named_value, names_of, has_name, NamesOnce}
use Rattle.vector_files.specs.Texts.{is_blank, is_silent, said, IsValued, block_of, parts_of, blocks_of, IsVectorText, ended, IsTaken}

-- a block that some lines say
pub record IsCut (some : List (ℕ × List ℕ)) (block : Lines) : Type 0 where
  pub is : block ≡ block_of some
  pub valued : IsValued some
  pub once : NamesOnce block

-- a name that a block has not differs from all that it has
or_left : (a b : Bool) → (a || b) ≡ false → a ≡ false
or_left true b e = cc
or_left false b e = refl

or_right : (a b : Bool) → (a || b) ≡ false → b ≡ false
or_right true b e = cc
or_right false b e = e

new_name : (block : Lines) (name : List ℕ) → has_name block name ≡ false → (k : ℕ) (d : List ℕ) → k < length (names_of block) → get_or (names_of block) k d ≢ name
new_name [] name none k d inside same = absurd (omega arith)
new_name (line ∷ block) name none zero d inside same =
    let equal : bytes_eq line.name name ≡ true = (bytes_eq-Decides line.name name).1 same in
    let unequal : bytes_eq line.name name ≡ false = or_left _ _ none in
    cc
new_name (line ∷ block) name none (suc k) d inside same = new_name block name (or_right _ _ none) k d (omega arith) same

once_more : (block : Lines) (line : NamedValue) → has_name block line.name ≡ false → NamesOnce block → NamesOnce (block ++ line ∷ [])
once_more block line new once = subst (AllPairs (λ a b. a ≢ b)) (sym (map-append (λ line. line.name) block (line ∷ []))) (all_pairs_push (λ a b. a ≢ b) (names_of block) _ once (new_name block _ new))

-- a blank line, one that says nothing, and another, taken in
pub taken_blank : (block : Lines) (x : ℕ × List ℕ) → is_blank x ≡ true → IsTaken block x [] (ended block)
taken_blank block x blank =
    record {
      says = rw blank refl;
      ends = rw blank refl;
      valued = λ plain. absurd (let both : true ≡ false = sym blank ∙ plain in cc);
      once = λ before. search rules;
    }

pub taken_silent : (block : Lines) (x : ℕ × List ℕ) → is_blank x ≡ false → is_silent x ≡ true → IsTaken block x block None
taken_silent block x plain silent =
    let none : said (x ∷ []) ≡ [] = rw silent refl in
    record {
      says = rw plain (sym (ap (λ more. block ++ map (λ (line : ℕ × List ℕ). named_value line.1 line.0) more) none ∙ append-nil block));
      ends = rw plain refl;
      valued = λ _. subst (All (λ (line : ℕ × List ℕ). HasValue line.1)) (sym none) (search rules);
      once = λ before. before;
    }

pub taken_value : (block : Lines) (x : ℕ × List ℕ) → is_blank x ≡ false → is_silent x ≡ false → HasValue x.1 → has_name block (named_value x.1 x.0).name ≡ false → IsTaken block x (block ++ named_value x.1 x.0 ∷ []) None
taken_value block x plain said_it valued new =
    let one : said (x ∷ []) ≡ x ∷ [] = rw said_it refl in
    record {
      says = rw plain (sym (ap (λ more. block ++ map (λ (line : ℕ × List ℕ). named_value line.1 line.0) more) one));
      ends = rw plain refl;
      valued = λ _. subst (All (λ (line : ℕ × List ℕ). HasValue line.1)) (sym one) (All-push (λ (line : ℕ × List ℕ). HasValue line.1) [] x (search rules) valued);
      once = once_more block _ new;
    }

-- one line more
said_more : (some : List (ℕ × List ℕ)) (x : ℕ × List ℕ) → said (some ++ x ∷ []) ≡ said some ++ said (x ∷ [])
said_more some x = filter-append (λ line. not (is_silent line)) some (x ∷ [])

cut_line : (some : List (ℕ × List ℕ)) (x : ℕ × List ℕ) (block after : Lines) → IsCut some block → after ≡ block ++ block_of (x ∷ []) → IsValued (x ∷ []) → NamesOnce after → IsCut (some ++ x ∷ []) after
cut_line some x block after cut says valued once =
    let what = λ (line : ℕ × List ℕ). named_value line.1 line.0 in
    record {
      is = says ∙ ap (λ b. b ++ block_of (x ∷ [])) cut.is ∙ sym (ap (map what) (said_more some x) ∙ map-append what (said some) (said (x ∷ [])));
      valued = subst (All (λ (line : ℕ × List ℕ). HasValue line.1)) (sym (said_more some x)) (All-append (λ (line : ℕ × List ℕ). HasValue line.1) (said some) (said (x ∷ [])) cut.valued valued);
      once = once;
    }

-- blocks that some parts of a text say
pub record AreCut (parts : List (List (ℕ × List ℕ))) (blocks : List Lines) : Type 0 where
  pub is : blocks ≡ filter (λ block. not (length block == 0)) (map block_of parts)
  pub valued : All IsValued parts
  pub once : All NamesOnce blocks

-- one part more
some_line : (line : NamedValue) (block : Lines) → (length (line ∷ block) == 0) ≡ false
some_line line block = grind (arith, nat_tests)

kept : (block : Lines) → filter (λ (b : Lines). not (length b == 0)) (block ∷ []) ≡ option_to_list (ended block)
kept [] = refl
kept (line ∷ block) = rw (some_line line block) refl

once_kept : (block : Lines) → NamesOnce block → All NamesOnce (option_to_list (ended block))
once_kept [] once = search rules
once_kept (line ∷ block) once = rw (some_line line block) (All-push NamesOnce [] (line ∷ block) (search rules) once)

cut_part : (parts : List (List (ℕ × List ℕ))) (blocks : List Lines) (part : List (ℕ × List ℕ)) (block : Lines) → AreCut parts blocks → IsCut part block → AreCut (parts ++ part ∷ []) (blocks ++ option_to_list (ended block))
cut_part parts blocks part block cut one =
    let full = λ (b : Lines). not (length b == 0) in
    record {
      is = ap (λ bs. bs ++ option_to_list (ended block)) cut.is ∙ ap (λ bs. filter full (map block_of parts) ++ bs) (sym (kept block) ∙ ap (λ b. filter full (b ∷ [])) one.is)
          ∙ sym (ap (filter full) (map-append block_of parts (part ∷ [])) ∙ filter-append full (map block_of parts) (block_of part ∷ []));
      valued = All-push IsValued parts part cut.valued one.valued;
      once = All-append NamesOnce blocks (option_to_list (ended block)) cut.once (once_kept block one.once);
    }

-- a list with one element more, split
abbrev on_last : {A : Type 0} → A → List (List A) → List (List A)
on_last x [] = []
on_last x (part ∷ []) = (part ++ x ∷ []) ∷ []
on_last x (part ∷ next ∷ parts) = part ∷ on_last x (next ∷ parts)

on_last-append : {A : Type 0} (x : A) (parts : List (List A)) (last : List A) → on_last x (parts ++ last ∷ []) ≡ parts ++ (last ++ x ∷ []) ∷ []
on_last-append x [] last = refl
on_last-append x (part ∷ []) last = refl
on_last-append x (part ∷ next ∷ parts) last = ap (λ more. part ∷ more) (on_last-append x (next ∷ parts) last)

kept_on : {A : Type 0} (x y : A) (b : Bool) (parts : List (List A)) → 0 < length parts → cond b ([] ∷ on_last x parts) (onto_first y (on_last x parts)) ≡ on_last x (cond b ([] ∷ parts) (onto_first y parts))
kept_on x y b [] some = absurd (omega arith)
kept_on x y true (part ∷ parts) some = refl
kept_on x y false (part ∷ []) some = refl
kept_on x y false (part ∷ next ∷ parts) some = refl

cut_on : {A : Type 0} (y : A) (b : Bool) (parts : List (List A)) → 0 < length parts → cond b ([] ∷ (parts ++ [] ∷ [])) (onto_first y (parts ++ [] ∷ [])) ≡ cond b ([] ∷ parts) (onto_first y parts) ++ [] ∷ []
cut_on y b [] some = absurd (omega arith)
cut_on y true (part ∷ parts) some = refl
cut_on y false (part ∷ parts) some = refl

onto_some : {A : Type 0} (y : A) (b : Bool) (parts : List (List A)) → 0 < length (cond b ([] ∷ parts) (onto_first y parts))
onto_some y true parts = omega arith
onto_some y false [] = omega arith
onto_some y false (part ∷ parts) = omega arith

split_some : {A : Type 0} (p : A → Bool) (xs : List A) → 0 < length (slice_split p xs)
split_some p [] = omega arith
split_some p (y ∷ xs) = onto_some y (p y) (slice_split p xs)

split_kept : {A : Type 0} (p : A → Bool) (x : A) → p x ≡ false → (xs : List A) → slice_split p (xs ++ x ∷ []) ≡ on_last x (slice_split p xs)
split_kept p x plain [] = rw plain refl
split_kept p x plain (y ∷ xs) = ap (λ parts. cond (p y) ([] ∷ parts) (onto_first y parts)) (split_kept p x plain xs) ∙ kept_on x y (p y) (slice_split p xs) (split_some p xs)

split_cut : {A : Type 0} (p : A → Bool) (x : A) → p x ≡ true → (xs : List A) → slice_split p (xs ++ x ∷ []) ≡ slice_split p xs ++ [] ∷ []
split_cut p x ends [] = rw ends refl
split_cut p x ends (y ∷ xs) = ap (λ parts. cond (p y) ([] ∷ parts) (onto_first y parts)) (split_cut p x ends xs) ∙ cut_on y (p y) (slice_split p xs) (split_some p xs)

-- the first lines of a text: the blocks that they ended, and the block behind them
pub record IsCutTo (some : List (ℕ × List ℕ)) (blocks : List Lines) (number : ℕ) (block : Lines) : Type 0 where
  pub parts : List (List (ℕ × List ℕ))
  pub last : List (ℕ × List ℕ)
  pub split : slice_split is_blank some ≡ parts ++ last ∷ []
  pub done : AreCut parts blocks
  pub begun : IsCut last block
  pub counted : number ≡ length some

-- no line
none_cut : IsCutTo [] [] 0 []
none_cut =
    record {
      parts = [];
      last = [];
      split = refl;
      done = record { is = refl; valued = search rules; once = search rules };
      begun = record { is = refl; valued = search rules; once = search rules };
      counted = refl;
    }

pub cut_begin : (number : ℕ) (block : Lines) → number ≡ 0 → block ≡ [] → IsCutTo [] [] number block
cut_begin number block first empty = rw (first, empty) none_cut

-- one line more
taken_cut : (some : List (ℕ × List ℕ)) (x : ℕ × List ℕ) (blocks : List Lines) (number next : ℕ) (block after : Lines) (end : Option Lines) (blank : Bool) → is_blank x ≡ blank
    → IsCutTo some blocks number block → next ≡ number + 1 → IsTaken block x after end → IsCutTo (some ++ x ∷ []) (blocks ++ option_to_list end) next after
taken_cut some x blocks number next block after end true blank cut more taken =
    let says : after ≡ [] = taken.says ∙ rw blank refl in
    let ends : end ≡ ended block = taken.ends ∙ rw blank refl in
    let long : next ≡ length (some ++ x ∷ []) = rw (length-append some (x ∷ [])) (more ∙ ap (λ n. n + 1) cut.counted) in
    rw (says, ends)
    (record {
      parts = cut.parts ++ cut.last ∷ [];
      last = [];
      split = split_cut is_blank x blank some ∙ ap (λ parts. parts ++ [] ∷ []) cut.split;
      done = cut_part cut.parts blocks cut.last block cut.done cut.begun;
      begun = record { is = refl; valued = search rules; once = search rules };
      counted = long;
    })
taken_cut some x blocks number next block after end false plain cut more taken =
    let says : after ≡ block ++ block_of (x ∷ []) = taken.says ∙ rw plain refl in
    let ends : end ≡ None = taken.ends ∙ rw plain refl in
    let long : next ≡ length (some ++ x ∷ []) = rw (length-append some (x ∷ [])) (more ∙ ap (λ n. n + 1) cut.counted) in
    rw (ends, append-nil blocks)
    (record {
      parts = cut.parts;
      last = cut.last ++ x ∷ [];
      split = split_kept is_blank x plain some ∙ ap (on_last x) cut.split ∙ on_last-append x cut.parts cut.last;
      done = cut.done;
      begun = cut_line cut.last x block after cut.begun says (taken.valued plain) (taken.once cut.begun.once);
      counted = long;
    })

-- numbers rise by one
enumerate_more : {A : Type 0} (n : ℕ) (xs : List A) (x : A) → enumerate_from n (xs ++ x ∷ []) ≡ enumerate_from n xs ++ (n + length xs, x) ∷ []
enumerate_more n [] x = let e : n + 0 ≡ n = omega arith in rw e refl
enumerate_more n (y ∷ xs) x =
    let e : n + 1 + length xs ≡ n + suc (length xs) = omega arith in
    ap (λ rest. (n, y) ∷ rest) (enumerate_more (n + 1) xs x ∙ ap (λ m. enumerate_from (n + 1) xs ++ (m, x) ∷ []) e)

-- lines that were read, numbered
abbrev pub read : List (Bor (List ℕ)) → List (ℕ × List ℕ)
read seen = enumerate_from 1 (map (λ l. l.now) seen)

read_more : (seen : List (Bor (List ℕ))) (line : Bor (List ℕ)) (number : ℕ) → number ≡ length (read seen) → read (seen ++ line ∷ []) ≡ read seen ++ (number + 1, line.now) ∷ []
read_more seen line number counted =
    let long = length-enumerate_from 1 (map (λ (l : Bor (List ℕ)). l.now) seen) in
    let next : 1 + length (map (λ (l : Bor (List ℕ)). l.now) seen) ≡ number + 1 = omega (arith, counted, long) in
    ap (enumerate_from 1) (map-append (λ (l : Bor (List ℕ)). l.now) seen (line ∷ [])) ∙ enumerate_more 1 (map (λ (l : Bor (List ℕ)). l.now) seen) line.now
    ∙ ap (λ m. read seen ++ (m, line.now) ∷ []) next

pub cut_more : (seen : List (Bor (List ℕ))) (line : Bor (List ℕ)) (blocks : List Lines) (number next : ℕ) (block after : Lines) (end : Option Lines)
    → IsCutTo (read seen) blocks number block → next ≡ number + 1 → IsTaken block (number + 1, line.now) after end → IsCutTo (read (seen ++ line ∷ [])) (blocks ++ option_to_list end) next after
cut_more seen line blocks number next block after end cut more taken =
    rw (read_more seen line number cut.counted) (taken_cut (read seen) (number + 1, line.now) blocks number next block after end (is_blank (number + 1, line.now)) refl cut more taken)

-- the blocks of all lines are the text's, and the text is well formed
all_cut : (text : List ℕ) (parts : List (List (ℕ × List ℕ))) (blocks : List Lines) → AreCut parts blocks → parts ≡ parts_of text → (blocks ≡ blocks_of text) × IsVectorText text
all_cut text parts blocks cut all =
    let same : blocks ≡ blocks_of text = cut.is ∙ ap (λ ps. filter (λ block. not (length block == 0)) (map block_of ps)) all in
    (same, record { valued = subst (All IsValued) all cut.valued; once = subst (All NamesOnce) same cut.once })

pub cut_end : (text : List ℕ) (seen : List (Bor (List ℕ))) (blocks : List Lines) (number : ℕ) (block : Lines) (end : Option Lines) → IsCutTo (read seen) blocks number block → map (λ l. l.now) seen ≡ lines text → end ≡ ended block
    → (blocks ++ option_to_list end ≡ blocks_of text) × IsVectorText text
cut_end text seen blocks number block end cut all ends =
    rw ends (all_cut text (cut.parts ++ cut.last ∷ []) (blocks ++ option_to_list (ended block)) (cut_part cut.parts blocks cut.last block cut.done cut.begun) (sym cut.split ∙ ap (λ ls. slice_split is_blank (enumerate_from 1 ls)) all))
