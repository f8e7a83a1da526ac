-- A Text: its lines, then its predicate, which sees what they declare.
use mathlib.Core.Path.{◌≡◌, refl, ◌∙◌}
use mathlib.Core.Bool.{Bool}
use mathlib.Core.List.{List, [], ◌∷◌, ◌++◌}
use mathlib.Core.Logic.{inl, ⊎_elim}
use Prim.Native.Nat.{ℕ, ◌+◌, ◌*◌, ◌-◌, ◌≤◌}
use native.Mathlib.Omega.{arith}
use lib.ListN.{length, length-append}
use Rattle.reader_rules.specs.Decode.{pairs_from}
use Rattle.reader_rules.specs.Limited.{LimitedText}
use Rattle.reader_rules.specs.Tree.{Pred, Lines, text}
use Rattle.reader_rules.specs.TreeNumbers.{pred_numbers, lines_numbers, text_numbers}
use Rattle.checker_rules.specs.Dictionary.{Dictionary}
use Rattle.checker_rules.specs.Items.{Items, ◌⨾◌, MeetsIn}
use Rattle.checker_rules.specs.Rules.{pred_items, lines_items, text_items}
use Rattle.checker_rules.specs.Scopes.{Scope, inside, text_signature, lines_signature}
use Rattle.checker_rules.specs.Signatures.{no_names}
use Rattle.checker_signatures.specs.Carried.{Carries}
use Rattle.checker_signatures.specs.Rows.{rows}
use Rattle.checker_signatures.specs.Tables.{Beside, Pushed, table_words}
use Rattle.checker_pieces.specs.Piece.{Steady, Walked}
use Rattle.checker_pieces.proofs.Between.{refuses_first, refuses_second, walked_then, walked_mine}
use Rattle.checker_lookup.specs.Scoped.{Scoped}
use Rattle.checker_includes.specs.Components.{Placed}
use Rattle.checker_contracts.specs.Room.{max_rows}
use Rattle.checker_contracts.specs.Predicates.{Walking, PredAsk, PredDone}
use Rattle.checker_contracts.specs.Texts.{TextAsk, TextDone, LinesAsk, LinesDone, LinesWent}
use Rattle.checker_contracts.specs.Visits.{Owned, Fresh, EachOnce, idle, Spared, Went, globals_if}
use Rattle.checker_contracts.proofs.Nodes.{once_left, once_right, fresh_left, fresh_right, owned_left, owned_right, owned_apart}
use Rattle.checker_contracts.proofs.Passing.{scoped_after}
use Rattle.checker_contracts.proofs.Pushing.{pushed_spared, pushed_scoped}
use Rattle.checker_contracts.proofs.Rooms.{between_part, crowd_part}
use Rattle.checker_contracts.proofs.Scopes.{scoped_stored, scoped_spared, scoped_walked, scoped_later, carries_stored, carries_spared, carries_later, stored_low, spared_on, spared_less}
use Rattle.checker_contracts.proofs.Wiping.{stored_kept}
use Rattle.checker_contracts.proofs.Refused.{done_refused}

module _ (s d w : List ℕ) (stack at free k : ℕ) (p : Pred) (ls : Lines) (A : TextAsk s d w stack at free (text k p ls)) where
  abbrev K : Walking s d w stack at free A.height (text_numbers (text k p ls))
  K = A.walking

  abbrev N : List ℕ
  N = pred_numbers p ++ lines_numbers ls

  tall : 1 ≤ A.height
  unfolding LimitedText
  tall = A.limited.0

  once : EachOnce N
  unfolding text_numbers
  once = once_left N (k ∷ []) K.once

  fresh_both : (U : List ℕ) → Fresh (text_numbers (text k p ls)) U → Fresh N U
  unfolding text_numbers
  fresh_both U F = fresh_left N (k ∷ []) U F

  shorter : (length (pred_numbers p) ≤ length (text_numbers (text k p ls))) × (length (lines_numbers ls) ≤ length (text_numbers (text k p ls)))
  unfolding text_numbers
  shorter = let n = length-append (pred_numbers p) (lines_numbers ls) in let l = length-append N (k ∷ []) in (omega arith, omega arith)

  no_rows : (H : Items) (U v : List ℕ) → Carries (Placed s d H U) no_names (rows v free 0)
  unfolding Carries pairs_from
  no_rows H U v = tt

  pub text_lines : LinesAsk s d w stack free 0 at (free + table_words) ls
  unfolding LimitedText
  text_lines =
      let B = K.room in
      let h = tall in
      let o = B.some in
      let l = B.low in
      let g = B.pool in
      record {
        height = A.height - 1;
        texts = A.texts - 1;
        limited = A.limited.4;
        walking = record {
          before = K.before;
          known = K.known;
          steady = K.steady;
          scope = K.scope;
          dictionary = K.dictionary;
          scoped = K.scoped;
          fresh = fresh_right (pred_numbers p) (lines_numbers ls) K.known (fresh_both K.known K.fresh);
          once = once_right (pred_numbers p) (lines_numbers ls) once;
          size = K.size;
          few = K.few;
          clean = K.clean;
          bound = K.bound;
          crowd = crowd_part K.bound (text_numbers (text k p ls)) (lines_numbers ls) K.crowd shorter.1;
          room =
              between_part w w stack stack at at free (free + table_words) A.height (A.height - 1) K.bound K.bound B refl (omega arith) (omega arith) o (omega arith) (omega arith)
              (omega arith) (omega arith);
        };
        signature = no_names;
        carried = no_rows K.before K.known w;
        few = omega arith;
        low = l;
        beside = omega arith;
        pool = omega arith;
      }

  -- THE LINES WERE VISITED.
  module _ (global : Bool) (s₁ w₁ : List ℕ) (number place m at₁ : ℕ) (L : LinesDone s s₁ d w w₁ stack free 0 at (free + table_words) ls global number place m at₁) where
    pub text_stopped : (number ≡ 0 → ⊥) → (count end : ℕ) → TextDone s s₁ d w w₁ stack at free (text k p ls) global number place count end
    unfolding text_items
    text_stopped e count end = record {
      done = done_refused L.done.still e (λ H U S Γ D C u F.
          refuses_first H (lines_items ls Γ (globals_if global D) no_names) (pred_items p (inside (text k p ls) Γ)) number place
          (L.done.stops e H U S Γ D C no_names ((fresh_right (pred_numbers p) (lines_numbers ls) U (fresh_both U F)), (no_rows H U w))));
    }

    module _ (fine : number ≡ 0) where
      pub push_ask : Beside (length w₁) (0 + 2 * stack) m free m
      push_ask =
          let B = K.room in
          let a = B.wide in
          let b = B.stack in
          let f = B.frames in
          let l = B.low in
          let h = tall in
          let e = L.done.still.size in
          let q = (L.done.areas fine).few in
          record { room = omega arith; inside = omega arith; apart = inl (omega arith) }

      few_rows : stack + m ≤ max_rows
      few_rows = let b = K.room.stack in let h = tall in let q = (L.done.areas fine).few in omega arith

      -- any items before
      module _ (H : Items) (U : List ℕ) (S : Steady H U) (Γ : Scope) (D : Dictionary) (C : Scoped s d w stack (idle H U) Γ D) (F : Fresh N U) where
        lined : LinesWent s₁ d w₁ free m H U Γ (globals_if global D) no_names ls
        lined = L.done.goes fine H U S Γ D C no_names ((fresh_right (pred_numbers p) (lines_numbers ls) U F), (no_rows H U w))

        fresh : Fresh (pred_numbers p) lined.unknowns
        fresh x q i =
            ⊎_elim (λ z. F x (owned_left (pred_numbers p) (lines_numbers ls) x q) z) (λ z. owned_apart (pred_numbers p) (lines_numbers ls) once x q z) (lined.walked.new x i)

        scoped : Scoped s₁ d w₁ stack (idle (H ⨾ lines_items ls Γ (globals_if global D) no_names) lined.unknowns) Γ D
        scoped =
            let pool = K.room.pool in
            let G = idle (H ⨾ lines_items ls Γ (globals_if global D) no_names) lined.unknowns in
            scoped_spared s₁ d w w₁ stack free G Γ D L.done.still
            (scoped_stored s s₁ d at at₁ K.size K.clean K.room.some (omega arith) (L.done.areas fine).stored w stack G Γ D
            (scoped_walked s d w stack Γ D H (lines_items ls Γ (globals_if global D) no_names) U lined.unknowns (Owned (lines_numbers ls)) lined.walked C))

      -- THE ROWS WERE PUSHED.
      module _ (w₂ : List ℕ) (r : ℕ) (P : Pushed w₁ w₂ 0 stack (rows w₁ free m) r) where
        spared₂ : (end : ℕ) → Spared w₁ w₂ stack end
        spared₂ end = let f = few_rows in pushed_spared w₁ w₂ stack free m r P end (omega arith)

        module _ (H : Items) (U : List ℕ) (S : Steady H U) (Γ : Scope) (D : Dictionary) (C : Scoped s d w stack (idle H U) Γ D) (F : Fresh N U) where
          within : Scoped s₁ d w₂ (stack + m) (idle (H ⨾ lines_items ls Γ (globals_if global D) no_names) (lined H U S Γ D C F).unknowns) (inside (text k p ls) Γ) D
          unfolding inside text_signature
          within =
              let f = few_rows in
              let a = K.room.wide in
              let e = L.done.still.size in
              pushed_scoped w₁ w₂ stack free m r P s₁ d (H ⨾ lines_items ls Γ (globals_if global D) no_names) (lined H U S Γ D C F).unknowns Γ D (lines_signature ls Γ no_names) (omega arith) (omega arith)
              (lined H U S Γ D C F).signature (scoped H U S Γ D C F)

        pub text_body : PredAsk s₁ d w₂ (stack + m) at₁ (free + table_words) p
        unfolding LimitedText
        text_body =
            let F = fresh_both K.known K.fresh in
            let X = lined K.before K.known K.steady K.scope K.dictionary K.scoped F in
            let B = K.room in
            let e = (L.done.areas fine).short in
            let f = (L.done.areas fine).few in
            let h = tall in
            let x = B.some in
            let l = B.low in
            let y = (L.done.areas fine).stored.more in
            record {
              height = A.height - 1;
              texts = A.texts - 1;
              limited = A.limited.3;
              walking = record {
                before = K.before ⨾ lines_items ls K.scope (globals_if global K.dictionary) no_names;
                known = X.unknowns;
                steady = X.walked.steady;
                scope = inside (text k p ls) K.scope;
                dictionary = K.dictionary;
                scoped = within K.before K.known K.steady K.scope K.dictionary K.scoped F;
                fresh = fresh K.before K.known K.steady K.scope K.dictionary K.scoped F;
                once = once_left (pred_numbers p) (lines_numbers ls) once;
                size = (L.done.areas fine).stored.size ∙ K.size;
                few = K.few;
                clean = (L.done.areas fine).stored.after;
                bound = K.bound;
                crowd = crowd_part K.bound (text_numbers (text k p ls)) (pred_numbers p) K.crowd shorter.0;
                room =
                    between_part w w₂ stack (stack + m) at at₁ free (free + table_words) A.height (A.height - 1) K.bound K.bound B ((spared₂ free).size ∙ L.done.still.size) (omega arith)
                    (omega arith) (omega arith) (omega arith) (omega arith) (omega arith) (omega arith);
              };
            }

        -- THE PREDICATE WAS VISITED.
        module _ (s₂ w₃ : List ℕ) (number₂ place₂ : ℕ) (Q : PredDone s₁ s₂ d w₂ w₃ (stack + m) at₁ (free + table_words) p number₂ place₂) where
          spared : Spared w w₃ stack free
          spared =
              spared_on w w₁ w₃ stack free L.done.still
              (spared_on w₁ w₂ w₃ stack free (spared₂ free) (spared_less w₂ w₃ (stack + m) stack (free + table_words) free (omega arith) (omega arith) Q.done.still))

          pub text_refused : (number₂ ≡ 0 → ⊥) → (count end : ℕ) → TextDone s s₂ d w w₃ stack at free (text k p ls) global number₂ place₂ count end
          unfolding text_items
          text_refused e count end = record {
            done = done_refused spared e (λ H U S Γ D C u F.
                let F' = fresh_both U F in
                let X = lined H U S Γ D C F' in
                refuses_second H (lines_items ls Γ (globals_if global D) no_names) (pred_items p (inside (text k p ls) Γ)) number₂ place₂ X.walked.goes
                (Q.done.stops e (H ⨾ lines_items ls Γ (globals_if global D) no_names) X.unknowns X.walked.steady (inside (text k p ls) Γ) D (within H U S Γ D C F') tt (fresh H U S Γ D C F')));
          }

          module _ (fine₂ : number₂ ≡ 0) (same : length s₂ ≡ length s₁) where
            module _ (H : Items) (U : List ℕ) (S : Steady H U) (Γ : Scope) (D : Dictionary) (C : Scoped s d w stack (idle H U) Γ D) (F : Fresh N U) where
              abbrev a : Items
              a = lines_items ls Γ (globals_if global D) no_names

              abbrev b : Items
              b = pred_items p (inside (text k p ls) Γ)

              abbrev X : LinesWent s₁ d w₁ free m H U Γ (globals_if global D) no_names ls
              X = lined H U S Γ D C F

              body : Went (H ⨾ a) b X.unknowns (pred_numbers p)
              body = Q.done.goes fine₂ (H ⨾ a) X.unknowns X.walked.steady (inside (text k p ls) Γ) D (within H U S Γ D C F) tt (fresh H U S Γ D C F)

              walked : Walked H (a ⨾ b) U body.unknowns (Owned (N ++ (k ∷ [])))
              walked =
                  walked_then H a b U X.unknowns body.unknowns (Owned (N ++ (k ∷ []))) S
                  (walked_mine H a U X.unknowns (Owned (lines_numbers ls)) (Owned (N ++ (k ∷ []))) (λ x o. owned_left N (k ∷ []) x (owned_right (pred_numbers p) (lines_numbers ls) x o)) X.walked)
                  (walked_mine (H ⨾ a) b X.unknowns body.unknowns (Owned (pred_numbers p)) (Owned (N ++ (k ∷ [])))
                  (λ x o. owned_left N (k ∷ []) x (owned_left (pred_numbers p) (lines_numbers ls) x o)) body.walked)

              -- the table stands
              table : Carries (Placed s₂ d (H ⨾ (a ⨾ b)) body.unknowns) (lines_signature ls Γ no_names) (rows w₃ free m)
              unfolding MeetsIn
              table =
                  let l = K.room.low in
                  let f = (L.done.areas fine).few in
                  let h = tall in
                  let pool = K.room.pool in
                  let short = (L.done.areas fine).short in
                  let o = K.room.some in
                  let y = (L.done.areas fine).stored.more in
                  let R = Placed s₂ d (H ⨾ (a ⨾ b)) body.unknowns in
                  let q = lines_signature ls Γ no_names in
                  let size = (L.done.areas fine).stored.size ∙ K.size in
                  carries_spared w₂ w₃ (stack + m) (free + table_words) free m R q Q.done.still l (omega arith)
                  (carries_spared w₁ w₂ stack (free + table_words) free m R q (spared₂ (free + table_words)) l (omega arith)
                  (carries_later s₂ d (H ⨾ a) (H ⨾ (a ⨾ b)) X.unknowns body.unknowns body.walked.wider (λ τ t. (t.0, t.1.0)) q (rows w₁ free m)
                  (carries_stored s₁ s₂ d at₁ at₁ size (L.done.areas fine).stored.after (omega arith) (omega arith)
                  (stored_low s₁ s₂ at₁ same (omega arith) (L.done.areas fine).stored.after (Q.done.areas fine₂)) (H ⨾ a) X.unknowns q (rows w₁ free m) X.signature)))

              -- and the scope inside the Text
              within_after : Scoped s₂ d w₃ (stack + m) (idle (H ⨾ (a ⨾ b)) body.unknowns) (inside (text k p ls) Γ) D
              unfolding MeetsIn
              within_after =
                  scoped_later s₂ d w₃ (stack + m) (inside (text k p ls) Γ) D (idle ((H ⨾ a) ⨾ b) body.unknowns) (idle (H ⨾ (a ⨾ b)) body.unknowns) (λ x i. i)
                  (λ τ t. (((t.0.0, t.0.1.0), t.0.1.1), tt))
                  (scoped_after s₁ s₂ d w₂ w₃ (stack + m) (free + table_words) (inside (text k p ls) Γ) D (H ⨾ a) b X.unknowns body.unknowns (Owned (pred_numbers p)) body.walked
                  (Q.done.areas fine₂) Q.done.still (within H U S Γ D C F))

            pub text_done : TextDone s s₂ d w w₃ stack at free (text k p ls) global number place m at₁
            unfolding text_items text_numbers text_signature
            text_done = record {
              done = record {
                still = spared;
                areas = λ z. record {
                  stored = let pool = K.room.pool in stored_kept s s₁ s₂ at at₁ (omega arith) (L.done.areas fine).stored same (Q.done.areas fine₂);
                  short = let e = (L.done.areas fine).short in omega arith;
                  few = (L.done.areas fine).few;
                };
                goes = λ z H U S Γ D C u F.
                    let F' = fresh_both U F in
                    record {
                      unknowns = (body H U S Γ D C F').unknowns;
                      walked = walked H U S Γ D C F';
                      signature = table H U S Γ D C F';
                      within = within_after H U S Γ D C F';
                    };
                stops = λ e. absurd (e fine);
              };
            }
