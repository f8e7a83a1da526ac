-- What the newest entry of a class with a name is in the dictionary: one law for names and schemas. And what the names of entries are.
use Rattle.std.proofs.Common.{◌≡◌, ℕ, zero, suc, ◌+◌, ◌-◌, ◌<◌, ◌≤◌, Bool, true, false, cond, ◌&&◌, eqb, List, [], ◌∷◌, ◌++◌, length, get_or, drop, replicate, sym, refl, ap, ◌∙◌, subst, ⊎_elim, append_assoc, append-nil, eq-or-lt_of_le, arith, get_or-drop, drop-drop}
use Rattle.std.specs.Prelude.{Option, Some, None, MatchOption}
use Rattle.std.specs.Option.{unwrap_or}
use Rattle.layout.specs.Layout.{count, offset_at}
use Rattle.types_rules.specs.Types.{Ty}
use Rattle.types_rules.specs.Words.{words}
use Rattle.types_rules.specs.Formed.{WellFormed}
use Rattle.checker_rules.specs.Dictionary.{Entry, name_entry, schema_entry, Dictionary, blank, ◌▸◌, entry_words, entries, laid_out_words, dictionary_words, dictionary_length}
use Rattle.checker_rules.specs.Dictionary.{Named, unnamed, of_global, name_in, NamedSchema, no_schema, a_schema, schema_in}
use Rattle.checker_rules.specs.WellFormed.{FormedDictionary}
use Rattle.checker_rules.proofs.FormedScopes.{FormedNamed, FormedFound, name_in_formed, schema_in_formed}
use Rattle.checker_dictionary.specs.Holds.{Holds}
use Rattle.checker_dictionary.specs.Lookup.{class_at, name_at, parameters_at, type_at, is_entry, newest, Located, NameFound, SchemaFound}
use Rattle.checker_dictionary.proofs.Places.{count_held, entry_here, length_last}

-- one turn of the search from the last number down
pub newest_hit : (f : ℕ → Bool) (k : ℕ) → 0 < k → f k ≡ true → k ≡ newest f k
unfolding newest
newest_hit f zero h e = absurd (omega arith)
newest_hit f (suc k) h e = rw e

pub newest_before : (f : ℕ → Bool) (k : ℕ) → f (suc k) ≡ false → newest f (suc k) ≡ newest f k
unfolding newest
newest_before f k e = rw e

pub newest_miss : (f : ℕ → Bool) (k : ℕ) → 0 < k → f k ≡ false → newest f k ≡ newest f (k - 1)
newest_miss f zero h e = absurd (omega arith)
newest_miss f (suc k) h e = let z : k ≡ suc k - 1 = omega arith in newest_before f k e ∙ ap (newest f) z

pub newest_none : (f : ℕ → Bool) (k : ℕ) → k ≤ 0 → 0 ≡ newest f k
unfolding newest
newest_none f zero h = refl
newest_none f (suc k) h = absurd (omega arith)

-- the search that passes no entry
pub newest_whole : (f : ℕ → Bool) (n : ℕ) (o : Option ℕ) → MatchOption o (newest f n ≡ newest f (n - (n - 0))) (λ k. (k ≡ newest f n) × (0 < k)) → unwrap_or o 0 ≡ newest f n
newest_whole f n None e = newest_none f (n - (n - 0)) (omega arith) ∙ sym e
newest_whole f n (Some k) e = e.0

-- the parts of an entry
unfoldable class_of : Entry → ℕ
class_of (name_entry i p g) = 1
class_of (schema_entry s p g) = 2

unfoldable name_of : Entry → ℕ
name_of (name_entry i p g) = i
name_of (schema_entry s p g) = s

unfoldable parameters_of : Entry → ℕ
parameters_of (name_entry i p g) = p
parameters_of (schema_entry s p g) = p

unfoldable type_of : Entry → Ty
type_of (name_entry i p g) = g
type_of (schema_entry s p g) = g

entry_words_lem : (e : Entry) → entry_words e ≡ class_of e ∷ (name_of e ∷ (parameters_of e ∷ words (type_of e)))
unfolding entry_words class_of name_of parameters_of type_of
entry_words_lem (name_entry i p g) = refl
entry_words_lem (schema_entry s p g) = refl

-- entry k of the area is e
module _ (d : List ℕ) (k : ℕ) (e : Entry) (rest : List ℕ) (q : drop (offset_at d k) d ≡ entry_words e ++ rest) where
  from_entry : drop (offset_at d k) d ≡ class_of e ∷ (name_of e ∷ (parameters_of e ∷ (words (type_of e) ++ rest)))
  from_entry = q ∙ ap (λ (w : List ℕ). w ++ rest) (entry_words_lem e)

  word_at_lem : (j : ℕ) → get_or d (offset_at d k + j) 0 ≡ get_or (class_of e ∷ (name_of e ∷ (parameters_of e ∷ (words (type_of e) ++ rest)))) j 0
  word_at_lem j = sym (get_or-drop (offset_at d k) d j 0) ∙ ap (λ (w : List ℕ). get_or w j 0) from_entry

  class_at_lem : class_at d k ≡ class_of e
  unfolding class_at
  class_at_lem = let z : offset_at d k ≡ offset_at d k + 0 = omega arith in ap (λ (j : ℕ). get_or d j 0) z ∙ word_at_lem 0

  name_at_lem : name_at d k ≡ name_of e
  unfolding name_at
  name_at_lem = word_at_lem 1

  parameters_at_lem : parameters_at d k ≡ parameters_of e
  unfolding parameters_at
  parameters_at_lem = word_at_lem 2

  type_at_lem : drop (type_at d k) d ≡ words (type_of e) ++ rest
  unfolding type_at
  type_at_lem = sym (drop-drop 3 (offset_at d k) d) ∙ ap (drop 3) from_entry

  is_entry_lem : (class i : ℕ) → is_entry d class i k ≡ (eqb class (class_of e) && eqb i (name_of e))
  unfolding is_entry
  is_entry_lem class i = rw (class_at_lem, name_at_lem)

-- a lookup by class and name, from the newest entry on
module _ (Answer : Type 0) (none : Answer) (some : ℕ → Ty → Answer) (class i : ℕ) (lookup : Dictionary → Answer)
    (start : lookup blank ≡ none)
    (step : (D : Dictionary) (e : Entry) → lookup (D ▸ e) ≡ cond (eqb class (class_of e) && eqb i (name_of e)) (some (parameters_of e) (type_of e)) (lookup D))
    (d : List ℕ) where
  chosen : (D : Dictionary) (e : Entry) (m : ℕ) (rest : List ℕ) → drop (offset_at d (suc m)) d ≡ entry_words e ++ rest
      → (b : Bool) → is_entry d class i (suc m) ≡ b → lookup (D ▸ e) ≡ cond b (some (parameters_of e) (type_of e)) (lookup D)
      → Located Answer (lookup D) none some d (newest (is_entry d class i) m) → Located Answer (lookup (D ▸ e)) none some d (newest (is_entry d class i) (suc m))
  chosen D e m rest q true t s older =
      subst (Located Answer (lookup (D ▸ e)) none some d) (newest_hit (is_entry d class i) (suc m) (omega arith) t) (record {
        absent = λ z. absurd (omega (arith, z));
        present = λ h. record {
          parameters = parameters_of e;
          type = type_of e;
          means = s;
          counted = parameters_at_lem d (suc m) e rest q;
          after = rest;
          written = type_at_lem d (suc m) e rest q;
        };
      })
  chosen D e m rest q false t s older =
      subst (λ (a : Answer). Located Answer a none some d (newest (is_entry d class i) (suc m))) (sym s)
      (subst (Located Answer (lookup D) none some d) (sym (newest_before (is_entry d class i) m t)) older)

  located_in : (D : Dictionary) (bs : List Entry) (rest : List ℕ) → d ≡ laid_out_words (entries D ++ bs) ++ rest
      → Located Answer (lookup D) none some d (newest (is_entry d class i) (length (entries D)))
  unfolding entries newest
  located_in blank bs rest q = record { absent = λ _. start; present = λ h. absurd (omega (arith, h)) }
  located_in (D ▸ e) bs rest q =
      let fs = entries D in
      let p : d ≡ laid_out_words (fs ++ (e ∷ bs)) ++ rest = q ∙ ap (λ (es : List Entry). laid_out_words es ++ rest) (append_assoc fs (e ∷ []) bs) in
      let h = entry_here fs bs e rest d p in
      subst (λ (m : ℕ). Located Answer (lookup (D ▸ e)) none some d (newest (is_entry d class i) m)) (sym (length_last fs e))
      (chosen D e (length fs) _ h (eqb class (class_of e) && eqb i (name_of e)) (is_entry_lem d (suc (length fs)) e _ h class i) (step D e) (located_in D (e ∷ bs) rest p))

  located : (D : Dictionary) → Holds D d → Located Answer (lookup D) none some d (newest (is_entry d class i) (count d))
  unfolding dictionary_words
  located D h =
      let rest = replicate {A = ℕ} (length d - dictionary_length D) 0 in
      let q : d ≡ laid_out_words (entries D ++ []) ++ rest = h.laid ∙ ap (λ (es : List Entry). laid_out_words es ++ rest) (sym (append-nil (entries D))) in
      subst (λ (m : ℕ). Located Answer (lookup D) none some d (newest (is_entry d class i) m)) (sym (count_held D d h)) (located_in D [] rest q)

name_step : (i : ℕ) (D : Dictionary) (e : Entry) → name_in i (D ▸ e) ≡ cond (eqb 1 (class_of e) && eqb i (name_of e)) (of_global (parameters_of e) (type_of e)) (name_in i D)
unfolding name_in class_of name_of parameters_of type_of
name_step i D (name_entry j p g) = refl
name_step i D (schema_entry s p g) = refl

schema_step : (s : ℕ) (D : Dictionary) (e : Entry) → schema_in s (D ▸ e) ≡ cond (eqb 2 (class_of e) && eqb s (name_of e)) (a_schema (parameters_of e) (type_of e)) (schema_in s D)
unfolding schema_in class_of name_of parameters_of type_of
schema_step s D (name_entry j p g) = refl
schema_step s D (schema_entry r p g) = refl

pub name_found : (D : Dictionary) (d : List ℕ) (i : ℕ) → Holds D d → NameFound D d i (newest (is_entry d 1 i) (count d))
unfolding name_in
name_found D d i h = located Named unnamed of_global 1 i (name_in i) refl (name_step i) d D h

pub schema_found : (D : Dictionary) (d : List ℕ) (s : ℕ) → Holds D d → SchemaFound D d s (newest (is_entry d 2 s) (count d))
unfolding schema_in
schema_found D d s h = located NamedSchema no_schema a_schema 2 s (schema_in s) refl (schema_step s) d D h

-- the types of a well-formed dictionary are well formed
pub name_formed : (D : Dictionary) (i p : ℕ) (g : Ty) → FormedDictionary D → name_in i D ≡ of_global p g → WellFormed g
unfolding FormedNamed
name_formed D i p g f e = subst FormedNamed e (name_in_formed i D f)

pub schema_formed : (D : Dictionary) (s p : ℕ) (g : Ty) → FormedDictionary D → schema_in s D ≡ a_schema p g → WellFormed g
unfolding FormedFound
schema_formed D s p g f e = subst FormedFound e (schema_in_formed s D f)

-- THE NAMES of entries that two areas have in common, as the first ones.
names_in : (D : Dictionary) (bs cs : List Entry) (rest over d d' : List ℕ) → d ≡ laid_out_words (entries D ++ bs) ++ rest → d' ≡ laid_out_words (entries D ++ cs) ++ over →
    (k : ℕ) → 1 ≤ k → k ≤ length (entries D) → name_at d k ≡ name_at d' k
unfolding entries
names_in blank bs cs rest over d d' q r k some most = absurd (omega (arith, some, most))
names_in (D ▸ e) bs cs rest over d d' q r k some most =
    let fs = entries D in
    let p : d ≡ laid_out_words (fs ++ (e ∷ bs)) ++ rest = q ∙ ap (λ (es : List Entry). laid_out_words es ++ rest) (append_assoc fs (e ∷ []) bs) in
    let o : d' ≡ laid_out_words (fs ++ (e ∷ cs)) ++ over = r ∙ ap (λ (es : List Entry). laid_out_words es ++ over) (append_assoc fs (e ∷ []) cs) in
    let l = length_last fs e in
    ⊎_elim
    (λ z.
    let n : k ≡ suc (length fs) = omega (arith, z, l) in
    ap (name_at d) n
    ∙ name_at_lem d (suc (length fs)) e _ (entry_here fs bs e rest d p)
    ∙ sym (name_at_lem d' (suc (length fs)) e _ (entry_here fs cs e over d' o))
    ∙ ap (name_at d') (sym n))
    (λ z. names_in D (e ∷ bs) (e ∷ cs) rest over d d' p o k some (omega (arith, z, l)))
    (eq-or-lt_of_le most)

-- the names of a dictionary in an area that has more entries
pub names_kept : (D E : Dictionary) (es : List Entry) → entries E ≡ entries D ++ es → (d d' : List ℕ) → Holds D d → Holds E d' → (k : ℕ) → 1 ≤ k → k ≤ count d → name_at d k ≡ name_at d' k
unfolding dictionary_words
names_kept D E es more d d' H I k some most =
    let n = count_held D d H in
    names_in D [] es (replicate {A = ℕ} (length d - dictionary_length D) 0) (replicate {A = ℕ} (length d' - dictionary_length E) 0) d d'
    (H.laid ∙ ap (λ (fs : List Entry). laid_out_words fs ++ replicate (length d - dictionary_length D) 0) (sym (append-nil (entries D))))
    (I.laid ∙ ap (λ (fs : List Entry). laid_out_words fs ++ replicate (length d' - dictionary_length E) 0) more)
    k some (omega (arith, most, n))
