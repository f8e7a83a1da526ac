-- A store saved and restored is alike.
use mathlib.Core.Path.{◌≡◌, sym, ap, ap₂, ◌∙◌}
use mathlib.Core.List.{List, ◌++◌}
use Prim.Native.Nat.{ℕ, ◌+◌, ◌*◌, ◌-◌, ◌≤◌, ◌<◌}
use native.Mathlib.Omega.{arith}
use lib.ListN.{length, get_or, length-append, get_or-append}
use lib.Seq.{sets, length-sets, get_or-append-add, ext_get_or}
use Rattle.words.proofs.Lists.{sets_append}
use Rattle.types_cells.specs.Layout.{max_cells, pool_size, links_at, records_at, first_run, frozen_size, runs_at, area_size}
use Rattle.types_cells.specs.Store.{frozen, field_at, run}
use Rattle.types_cells.specs.Calls.{Above}
use Rattle.types_cells.specs.Settled.{lower, word_at}
use Rattle.types_solver.specs.Written.{Wrote}
use Rattle.types_cells.proofs.Words.{run_at, run_length}
use Rattle.types_cells.proofs.Reading.{lower_length}
use Rattle.types_cells.proofs.Growing.{frozen_at}
use Rattle.types_instances.specs.Moved.{AllBelow, StillRead, Alike, saved, restored, Resumed}
use Rattle.types_instances.proofs.Moving.{sets_before, sets_in, sets_run, lower_at_lem}
use Rattle.types_instances.proofs.AlikeLaws.{still_read, alike_solved, alike_above, alike_pinned, alike_below, alike_obeys, alike_obeys_back, alike_solution, alike_solution_back}

module _ (s : List ℕ) (n top : ℕ) (size : length s ≡ area_size) (few : n ≤ max_cells) (low : first_run ≤ top) (high : top ≤ frozen_size) where
  links_length : length (run s links_at n) ≡ n
  links_length = run_length s pool_size n (omega arith)

  cells_length : length (run s records_at (4 * n)) ≡ 4 * n
  cells_length = run_length s records_at (4 * n) (omega arith)

  runs_length : length (run s runs_at (top - first_run)) ≡ top - first_run
  runs_length = run_length s runs_at (top - first_run) (omega arith)

  pub saved_length : length (saved s n top) ≡ 5 * n + (top - first_run)
  unfolding saved
  saved_length =
      let a = links_length in
      let b = cells_length in
      let c = runs_length in
      omega (arith, length-append (run s links_at n) (run s records_at (4 * n) ++ run s runs_at (top - first_run)), length-append (run s records_at (4 * n)) (run s runs_at (top - first_run)))

  pub saved_area : (o₀ o₁ o₂ o₃ : List ℕ) (at : ℕ) → o₁ ≡ sets o₀ at (run s links_at n) → o₂ ≡ sets o₁ (at + n) (run s records_at (4 * n)) → o₃ ≡ sets o₂ (at + n + 4 * n) (run s runs_at (top - first_run)) →
      Wrote o₀ o₃ at (at + n + 4 * n + (top - first_run)) (saved s n top)
  unfolding saved
  saved_area o₀ o₁ o₂ o₃ at e₁ e₂ e₃ =
      let z = saved_length in
      record {
        area = e₃
            ∙ ap₂ (λ x y. sets x y (run s runs_at (top - first_run))) (e₂ ∙ ap₂ (λ x y. sets x (at + y) (run s records_at (4 * n))) e₁ (sym links_length)) (ap₂ (λ x y. at + x + y) (sym links_length) (sym cells_length))
            ∙ sym (sets_append o₀ at (run s links_at n) (run s records_at (4 * n) ++ run s runs_at (top - first_run))
            ∙ sets_append (sets o₀ at (run s links_at n)) (at + length (run s links_at n)) (run s records_at (4 * n)) (run s runs_at (top - first_run)));
        end = omega arith;
      }

  -- Where they were written they stand.
  pub saved_stands : (out out' : List ℕ) (at e : ℕ) → at + (5 * n + (top - first_run)) ≤ length out → Wrote out out' at e (saved s n top) → run out' at (5 * n + (top - first_run)) ≡ saved s n top
  saved_stands out out' at e r W =
      let z = saved_length in
      ap₂ (λ o k. run o at k) W.area (sym z) ∙ sets_run out at (saved s n top) (omega arith)

  -- The words of a saved store.
  pub saved_links : (i : ℕ) → i < n → get_or (saved s n top) i 0 ≡ get_or s (links_at + i) 0
  unfolding saved
  saved_links i l =
      let a = links_length in
      get_or-append (run s links_at n) (run s records_at (4 * n) ++ run s runs_at (top - first_run)) 0 i (omega arith) ∙ run_at s pool_size n i l

  pub saved_cells : (i : ℕ) → i < 4 * n → get_or (saved s n top) (n + i) 0 ≡ get_or s (records_at + i) 0
  unfolding saved
  saved_cells i l =
      let b = cells_length in
      ap (λ z. get_or (run s links_at n ++ (run s records_at (4 * n) ++ run s runs_at (top - first_run))) (z + i) 0) (sym links_length)
      ∙ get_or-append-add (run s links_at n) (run s records_at (4 * n) ++ run s runs_at (top - first_run)) i 0
      ∙ get_or-append (run s records_at (4 * n)) (run s runs_at (top - first_run)) 0 i (omega arith) ∙ run_at s records_at (4 * n) i l

  pub saved_runs : (i : ℕ) → i < top - first_run → get_or (saved s n top) (n + (4 * n + i)) 0 ≡ get_or s (runs_at + i) 0
  unfolding saved
  saved_runs i l =
      ap (λ z. get_or (run s links_at n ++ (run s records_at (4 * n) ++ run s runs_at (top - first_run))) (z + (4 * n + i)) 0) (sym links_length)
      ∙ get_or-append-add (run s links_at n) (run s records_at (4 * n) ++ run s runs_at (top - first_run)) (4 * n + i) 0
      ∙ ap (λ z. get_or (run s records_at (4 * n) ++ run s runs_at (top - first_run)) (z + i) 0) (sym cells_length)
      ∙ get_or-append-add (run s records_at (4 * n)) (run s runs_at (top - first_run)) i 0 ∙ run_at s runs_at (top - first_run) i l

  -- The saved words stand in `from` at `at`: restored over t they give a store that is alike.
  module _ (t from : List ℕ) (at : ℕ) (same : length t ≡ area_size) (fit : at + (5 * n + (top - first_run)) ≤ length from) (stand : run from at (5 * n + (top - first_run)) ≡ saved s n top) where
    word_from : (i : ℕ) → i < 5 * n + (top - first_run) → get_or from (at + i) 0 ≡ get_or (saved s n top) i 0
    word_from i l = sym (run_at from at (5 * n + (top - first_run)) i l) ∙ ap (λ z. get_or z i 0) stand

    abbrev A : List ℕ
    A = run from at n

    abbrev B : List ℕ
    B = run from (at + n) (4 * n)

    abbrev C : List ℕ
    C = run from (at + n + 4 * n) (top - first_run)

    a_length : length A ≡ n
    a_length = run_length from at n (omega arith)

    b_length : length B ≡ 4 * n
    b_length = run_length from (at + n) (4 * n) (omega arith)

    c_length : length C ≡ top - first_run
    c_length = run_length from (at + n + 4 * n) (top - first_run) (omega arith)

    abbrev t₁ : List ℕ
    t₁ = sets t links_at A

    abbrev t₂ : List ℕ
    t₂ = sets t₁ records_at B

    pub restored_length : length (restored t n top from at) ≡ length t
    unfolding restored
    restored_length = length-sets t₂ runs_at C ∙ length-sets t₁ records_at B ∙ length-sets t links_at A

    pub restored_before : (i : ℕ) → i < pool_size → get_or (restored t n top from at) i 0 ≡ get_or t i 0
    unfolding restored
    restored_before i l = sets_before t₂ runs_at C i (omega arith) ∙ sets_before t₁ records_at B i (omega arith) ∙ sets_before t links_at A i l

    -- Only the store is written.
    pub restored_lower : lower (restored t n top from at) ≡ lower t
    restored_lower =
        let x = lower_length (restored t n top from at) (restored_length ∙ same) in
        let y = lower_length t same in
        ext_get_or 0 (lower (restored t n top from at)) (lower t) (x ∙ sym y)
        (λ i l. let m : i < pool_size = omega arith in lower_at_lem (restored t n top from at) i m ∙ restored_before i m ∙ sym (lower_at_lem t i m))

    -- The types of the settled cells are still read where the words below `base` are those of s.
    pub restored_still : (d : List ℕ) (base : ℕ) → base ≤ pool_size → ((i : ℕ) → i < base → get_or t i 0 ≡ get_or s i 0) → AllBelow s d n base → StillRead s (restored t n top from at) d n
    restored_still d base r h B =
        still_read s (restored t n top from at) d n base size (restored_length ∙ same) r (λ i l. restored_before i (omega arith) ∙ h i l) B

    at_link : (i : ℕ) → i < n → get_or (restored t n top from at) (links_at + i) 0 ≡ get_or s (links_at + i) 0
    unfolding restored
    at_link i l =
        let a = a_length in
        sets_before t₂ runs_at C (links_at + i) (omega arith) ∙ sets_before t₁ records_at B (links_at + i) (omega arith) ∙ sets_in t links_at A i (omega arith) (omega arith)
        ∙ run_at from at n i l ∙ word_from i (omega arith) ∙ saved_links i l

    at_cell : (i : ℕ) → i < 4 * n → get_or (restored t n top from at) (records_at + i) 0 ≡ get_or s (records_at + i) 0
    unfolding restored
    at_cell i l =
        let b = b_length in
        let e = length-sets t links_at A in
        let z : at + n + i ≡ at + (n + i) = omega arith in
        sets_before t₂ runs_at C (records_at + i) (omega arith) ∙ sets_in t₁ records_at B i (omega arith) (omega arith)
        ∙ run_at from (at + n) (4 * n) i l ∙ ap (λ k. get_or from k 0) z ∙ word_from (n + i) (omega arith) ∙ saved_cells i l

    at_run : (i : ℕ) → i < top - first_run → get_or (restored t n top from at) (runs_at + i) 0 ≡ get_or s (runs_at + i) 0
    unfolding restored
    at_run i l =
        let c = c_length in
        let e = length-sets t links_at A in
        let f = length-sets t₁ records_at B in
        let z : at + n + 4 * n + i ≡ at + (n + (4 * n + i)) = omega arith in
        sets_in t₂ runs_at C i (omega arith) (omega arith)
        ∙ run_at from (at + n + 4 * n) (top - first_run) i l ∙ ap (λ k. get_or from k 0) z ∙ word_from (n + (4 * n + i)) (omega arith) ∙ saved_runs i l

    -- THE STORE IS BACK: its cells, links and runs are those that were saved.
    pub restored_alike : Alike s (restored t n top from at) n top
    unfolding word_at field_at
    restored_alike = record {
      size = restored_length ∙ same ∙ sym size;
      links = at_link;
      fields = λ i j l m. frozen_at (restored t n top from at) (4 * i + j) ∙ at_cell (4 * i + j) (omega arith) ∙ sym (frozen_at s (4 * i + j));
      runs = λ p l m.
          let z : records_at + p ≡ runs_at + (p - first_run) = omega arith in
          frozen_at (restored t n top from at) p ∙ ap (λ k. get_or (restored t n top from at) k 0) z ∙ at_run (p - first_run) (omega arith) ∙ sym (frozen_at s p ∙ ap (λ k. get_or s k 0) z);
    }

    -- THE STORE IS TAKEN UP AGAIN: whatever happened to it in between, and to the words from `base` on, it has the cells, equations and solutions of s.
    module _ (d : List ℕ) (base : ℕ) (r : base ≤ pool_size) (kept : (i : ℕ) → i < base → get_or t i 0 ≡ get_or s i 0) (under : AllBelow s d n base) (over : Above (frozen s) n top) where
      pub resumed : Resumed s (restored t n top from at) d n top base
      resumed =
          let Z = restored_still d base r kept under in
          let u = restored t n top from at in
          record {
            alike = restored_alike;
            solved = λ P₀ L S. alike_solved s u n top restored_alike P₀ L over S;
            above = alike_above s u n top restored_alike over;
            pinned = λ P. alike_pinned s u n top restored_alike d Z P;
            below = λ P. alike_below s u n top restored_alike d Z base P under;
            obeys = λ σ P O. alike_obeys s u n top restored_alike d Z σ P O;
            obeyed = λ σ O. alike_obeys_back s u n top restored_alike d Z σ O;
            solutions = λ P₀ L S P X. alike_solution s u n top restored_alike d Z P₀ L over S P X;
            solved_before = λ P₀ L S X. alike_solution_back s u n top restored_alike d Z P₀ L over S X;
          }
