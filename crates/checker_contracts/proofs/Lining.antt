-- LINES IN A ROW: none; a line, then others.
use mathlib.Core.Path.{◌≡◌, refl, sym, ap, subst, ◌∙◌}
use mathlib.Core.Logic.{◌⊎◌}
use mathlib.Core.Bool.{Bool}
use mathlib.Core.List.{List, [], ◌∷◌, ◌++◌}
use Prim.Native.Nat.{ℕ, ◌+◌, ◌*◌, ◌-◌, ◌≤◌, ◌<◌}
use native.Mathlib.Omega.{arith}
use lib.ListN.{length, length-append}
use Rattle.reader_rules.specs.Limited.{LimitedLines}
use Rattle.reader_rules.specs.Tree.{Expr, Lines, end, declaration, inclusion, Include, include_node}
use Rattle.reader_rules.specs.TreeNumbers.{expr_numbers, lines_numbers, include_numbers}
use Rattle.types_rules.specs.Trees.{finite}
use Rattle.checker_rules.specs.Conditions.{merge_declared, merge_names, new_names, small_types, few_names, is_power}
use Rattle.checker_rules.specs.Dictionary.{Dictionary}
use Rattle.checker_rules.specs.Items.{Items, skip, ◌⨾◌, small, piece, Passes, Refuses, MeetsIn}
use Rattle.checker_rules.specs.Rules.{expr_items, lines_items, include_items}
use Rattle.checker_rules.specs.Scopes.{Scope, lines_signature, include_signature}
use Rattle.checker_rules.specs.Signatures.{Signature, names_of, declare, merge}
use Rattle.checker_rules.specs.Unknowns.{unknown_at}
use Rattle.checker_signatures.specs.Rows.{rows}
use Rattle.checker_signatures.specs.Carried.{Carries}
use Rattle.checker_pieces.specs.Piece.{Steady, Walked}
use Rattle.checker_pieces.proofs.Between.{walked_skip, walked_mine}
use Rattle.checker_lookup.specs.Scoped.{Scoped}
use Rattle.checker_includes.specs.Components.{Placed}
use Rattle.checker_includes.specs.Storing.{Stored}
use Rattle.checker_contracts.specs.Visits.{Owned, Fresh, EachOnce, idle, Spared, globals_if}
use Rattle.checker_contracts.specs.Predicates.{Walking}
use Rattle.checker_contracts.specs.Texts.{LinesAsk, LinesWent, LinesDone}
use Rattle.checker_contracts.proofs.Nodes.{once_left, once_right, owned_left, owned_right, fresh_left, fresh_after}
use Rattle.checker_contracts.proofs.Rooms.{crowd_part}
use Rattle.checker_contracts.proofs.Scopes.{spared_refl, spared_on, stored_on, scoped_stored, scoped_spared, scoped_walked, carries_later}
use Rattle.checker_contracts.proofs.ItemOrder.{Order, nothing, only, grouped, listed, first_refuses, then_refuses, then_walked, then_tables}
use Rattle.checker_contracts.proofs.LineItems.{line_order}
use Rattle.checker_contracts.proofs.Refused.{done_refused}

-- NO LINE.
pub lines_none : (s d w : List ℕ) (stack base m at free place : ℕ) (global : Bool) → LinesAsk s d w stack base m at free end →
    LinesDone s s d w w stack base m at free end global 0 place m at
unfolding lines_items lines_signature MeetsIn
lines_none s d w stack base m at free place global Q = record {
  done = record {
    still = spared_refl w stack base;
    areas = λ e. record {
      stored = record { size = refl; before = λ i l. refl; after = Q.walking.clean; more = omega arith };
      more = omega arith;
      short = omega arith;
      few = Q.few;
    };
    goes = λ e H U S Γ D C r I. let F = I.0 in let J = I.1 in record {
      unknowns = U;
      walked = walked_skip H U (Owned (lines_numbers end)) S;
      signature = carries_later s d H (H ⨾ skip) U U (λ x i. i) (λ τ h. h.0) r (rows w base m) J;
    };
    stops = λ e. absurd (e refl);
  };
}

-- A LINE ALONE, and before the lines ls.
pub record Before (one whole ls : Lines) : Type 0 where
  pub order : Scope → Dictionary → Signature → Order → Order
  pub after : Scope → Signature → Signature
  pub numbers : lines_numbers whole ≡ lines_numbers one ++ lines_numbers ls
  pub limited : (h t : ℕ) → LimitedLines h t whole → LimitedLines h t one × LimitedLines h t ls
  pub one_items : (Γ : Scope) (G : Dictionary) (r : Signature) → lines_items one Γ G r ≡ grouped (order Γ G r nothing)
  pub whole_items : (Γ : Scope) (G : Dictionary) (r : Signature) → lines_items whole Γ G r ≡ grouped (order Γ G r (only (lines_items ls Γ G (after Γ r))))
  pub in_turn : (Γ : Scope) (G : Dictionary) (r : Signature) (c : Items) → listed (order Γ G r (only c)) ≡ listed (order Γ G r nothing) ++ (c ∷ [])
  pub one_signature : (Γ : Scope) (r : Signature) → lines_signature one Γ r ≡ after Γ r
  pub whole_signature : (Γ : Scope) (r : Signature) → lines_signature whole Γ r ≡ lines_signature ls Γ (after Γ r)

nothing_after : (l m : List ℕ) → l ++ m ≡ (l ++ []) ++ m
nothing_after [] m = refl
nothing_after (x ∷ l) m = ap (◌∷◌ x) (nothing_after l m)

pub decl_before : (n : ℕ) (a : Expr) (is : List ℕ) (ls : Lines) → Before (declaration n a is end) (declaration n a is ls) ls
unfolding lines_items lines_signature lines_numbers LimitedLines grouped listed
decl_before n a is ls = record {
  order = λ Γ G r. line_order (piece n (expr_items a Γ ⨾ is_power n 0 a)) (merge_declared n is (unknown_at n 0) r) (new_names n is G) (small n (unknown_at n 0)) (few_names n (declare is (unknown_at n 0) r));
  after = λ Γ r. declare is (unknown_at n 0) r;
  numbers = nothing_after (expr_numbers a ++ (n ∷ [])) (lines_numbers ls);
  limited = λ h t L. ((L.0, L.1, L.2, tt), L.3);
  one_items = λ Γ G r. refl;
  whole_items = λ Γ G r. refl;
  in_turn = λ Γ G r c. refl;
  one_signature = λ Γ r. refl;
  whole_signature = λ Γ r. refl;
}

pub incl_before : (i : Include) (ls : Lines) → Before (inclusion i end) (inclusion i ls) ls
unfolding lines_items lines_signature lines_numbers LimitedLines grouped listed
incl_before i ls = record {
  order = λ Γ G r.
      line_order (include_items i Γ) (merge_names (include_node i) (include_signature i Γ) r) (new_names (include_node i) (names_of (include_signature i Γ)) G)
      (small_types (include_node i) (include_signature i Γ)) (few_names (include_node i) (merge (include_signature i Γ) r));
  after = λ Γ r. merge (include_signature i Γ) r;
  numbers = nothing_after (include_numbers i) (lines_numbers ls);
  limited = λ h t L. ((L.0, tt), L.1);
  one_items = λ Γ G r. refl;
  whole_items = λ Γ G r. refl;
  in_turn = λ Γ G r c. refl;
  one_signature = λ Γ r. refl;
  whole_signature = λ Γ r. refl;
}

module _ (s d w : List ℕ) (stack base m at free : ℕ) (one whole ls : Lines) (X : Before one whole ls) (Q : LinesAsk s d w stack base m at free whole) where
  abbrev l : List ℕ
  l = lines_numbers one

  abbrev k : List ℕ
  k = lines_numbers ls

  abbrev K : Walking s d w stack at free Q.height (lines_numbers whole)
  K = Q.walking

  abbrev parts : Walking s d w stack at free Q.height (l ++ k)
  parts = record {
    before = K.before;
    known = K.known;
    steady = K.steady;
    scope = K.scope;
    dictionary = K.dictionary;
    scoped = K.scoped;
    fresh = subst (λ z. Fresh z K.known) X.numbers K.fresh;
    once = subst EachOnce X.numbers K.once;
    size = K.size;
    few = K.few;
    clean = K.clean;
    bound = K.bound;
    crowd = subst (λ z. (24 ≤ K.bound) ⊎ (length z ≤ K.bound)) X.numbers K.crowd;
    room = K.room;
  }

  -- the line
  pub line_ask : LinesAsk s d w stack base m at free one
  line_ask = record {
    height = Q.height;
    texts = Q.texts;
    limited = (X.limited Q.height Q.texts Q.limited).0;
    walking = record {
      before = K.before;
      known = K.known;
      steady = K.steady;
      scope = K.scope;
      dictionary = K.dictionary;
      scoped = K.scoped;
      fresh = fresh_left l k K.known parts.fresh;
      once = once_left l k parts.once;
      size = K.size;
      few = K.few;
      clean = K.clean;
      bound = K.bound;
      crowd = crowd_part K.bound (l ++ k) l parts.crowd (let e = length-append l k in omega arith);
      room = K.room;
    };
    signature = Q.signature;
    carried = Q.carried;
    few = Q.few;
    low = Q.low;
    beside = Q.beside;
    pool = Q.pool;
  }

  module _ (global : Bool) (s₁ w₁ : List ℕ) (number place m₁ at₁ : ℕ) (A : LinesDone s s₁ d w w₁ stack base m at free one global number place m₁ at₁) where
    abbrev alone : Scope → Dictionary → Signature → Order
    alone Γ G r = X.order Γ G r nothing

    abbrev items : Scope → Dictionary → Signature → Items
    items Γ G r = grouped (alone Γ G r)

    -- the items of the lines after it, and all
    abbrev rest : Scope → Dictionary → Signature → Items
    rest Γ G r = lines_items ls Γ G (X.after Γ r)

    abbrev all : Scope → Dictionary → Signature → Order
    all Γ G r = X.order Γ G r (only (rest Γ G r))

    first_fresh : (U : List ℕ) → Fresh (lines_numbers whole) U → Fresh (l ++ k) U
    first_fresh U F = subst (λ z. Fresh z U) X.numbers F

    -- its finding
    pub line_refused : (number ≡ 0 → ⊥) → (m' at' : ℕ) → LinesDone s s₁ d w w₁ stack base m at free whole global number place m' at'
    line_refused e m' at' = record {
      done = done_refused A.done.still e (λ H U S Γ D C r I. let F = I.0 in let J = I.1 in
          let G = globals_if global D in
          subst (λ c. Refuses c (MeetsIn H) number place) (sym (X.whole_items Γ G r))
          (first_refuses (alone Γ G r) (all Γ G r) (rest Γ G r) (X.in_turn Γ G r (rest Γ G r)) H number place
          (subst (λ c. Refuses c (MeetsIn H) number place) (X.one_items Γ G r) (A.done.stops e H U S Γ D C r ((fresh_left l k U (first_fresh U F)), J)))));
    }

    -- it passes
    module _ (fine : number ≡ 0) where
      module _ (H : Items) (U : List ℕ) (S : Steady H U) (Γ : Scope) (D : Dictionary) (C : Scoped s d w stack (idle H U) Γ D) (F : Fresh (l ++ k) U) (r : Signature)
          (J : Carries (Placed s d H U) r (rows w base m)) where
        abbrev G : Dictionary
        G = globals_if global D

        abbrev W : LinesWent s₁ d w₁ base m₁ H U Γ G r one
        W = A.done.goes fine H U S Γ D C r ((fresh_left l k U F), J)

        abbrev c : Items
        c = items Γ G r

        walked₁ : Walked H c U W.unknowns (Owned l)
        walked₁ = subst (λ z. Walked H z U W.unknowns (Owned l)) (X.one_items Γ G r) W.walked

        scoped₁ : Scoped s₁ d w₁ stack (idle (H ⨾ c) W.unknowns) Γ D
        scoped₁ =
            let p = K.room.pool in
            scoped_walked s₁ d w₁ stack Γ D H c U W.unknowns (Owned l) walked₁
            (scoped_spared s₁ d w w₁ stack base (idle H U) Γ D A.done.still
            (scoped_stored s s₁ d at at₁ K.size K.clean K.room.some (omega arith) (A.done.areas fine).stored w stack (idle H U) Γ D C))

        fresh₁ : Fresh k W.unknowns
        fresh₁ = fresh_after l k U W.unknowns (subst EachOnce X.numbers Q.walking.once) F W.walked.new

        signature₁ : Carries (Placed s₁ d (H ⨾ c) W.unknowns) (X.after Γ r) (rows w₁ base m₁)
        signature₁ =
            subst (λ z. Carries (Placed s₁ d (H ⨾ z) W.unknowns) (X.after Γ r) (rows w₁ base m₁)) (X.one_items Γ G r)
            (subst (λ z. Carries (Placed s₁ d (H ⨾ lines_items one Γ G r) W.unknowns) z (rows w₁ base m₁)) (X.one_signature Γ r) W.signature)

      -- the lines after it
      pub lines_ask : LinesAsk s₁ d w₁ stack base m₁ at₁ free ls
      lines_ask =
          let F = first_fresh K.known K.fresh in
          let L = length-append l k in
          let a₀ = (A.done.areas fine).stored.more in
          let a₁ = (A.done.areas fine).more in
          let a₂ = (A.done.areas fine).short in
          let a₃ = (A.done.areas fine).few in
          let b₀ = Q.pool in
          let b₁ = K.room.wide in
          let b₂ = A.done.still.size in
          let b₃ = K.room.some in
          record {
            height = Q.height;
            texts = Q.texts;
            limited = (X.limited Q.height Q.texts Q.limited).1;
            walking = record {
              before = K.before ⨾ c K.before K.known K.steady K.scope K.dictionary K.scoped F Q.signature Q.carried;
              known = (W K.before K.known K.steady K.scope K.dictionary K.scoped F Q.signature Q.carried).unknowns;
              steady = (walked₁ K.before K.known K.steady K.scope K.dictionary K.scoped F Q.signature Q.carried).steady;
              scope = K.scope;
              dictionary = K.dictionary;
              scoped = scoped₁ K.before K.known K.steady K.scope K.dictionary K.scoped F Q.signature Q.carried;
              fresh = fresh₁ K.before K.known K.steady K.scope K.dictionary K.scoped F Q.signature Q.carried;
              once = once_right l k (subst EachOnce X.numbers K.once);
              size = (A.done.areas fine).stored.size ∙ K.size;
              few = K.few;
              clean = (A.done.areas fine).stored.after;
              bound = K.bound;
              crowd = crowd_part K.bound (l ++ k) k (subst (λ z. (24 ≤ K.bound) ⊎ (length z ≤ K.bound)) X.numbers K.crowd) (omega arith);
              room = record {
                wide = omega arith;
                stack = K.room.stack;
                low = K.room.low;
                frames = K.room.frames;
                some = omega arith;
                pool = omega arith;
                few = K.room.few;
              };
            };
            signature = X.after K.scope Q.signature;
            carried = signature₁ K.before K.known K.steady K.scope K.dictionary K.scoped F Q.signature Q.carried;
            few = a₃;
            low = Q.low;
            beside = Q.beside;
            pool = omega arith;
          }

      pub lines_then_lem : (s₂ w₂ : List ℕ) (number' place' m₂ at₂ : ℕ) → LinesDone s₁ s₂ d w₁ w₂ stack base m₁ at₁ free ls global number' place' m₂ at₂ →
          LinesDone s s₂ d w w₂ stack base m at free whole global number' place' m₂ at₂
      lines_then_lem s₂ w₂ number' place' m₂ at₂ B = record {
        done = record {
          still = spared_on w w₁ w₂ stack base A.done.still B.done.still;
          areas = λ e. record {
            stored = stored_on s s₁ s₂ at at₁ at₂ (A.done.areas fine).stored (B.done.areas e).stored;
            more = let x = (A.done.areas fine).more in let y = (B.done.areas e).more in omega arith;
            short = let x = (A.done.areas fine).more in let y = (B.done.areas e).more in let u = (A.done.areas fine).short in let v = (B.done.areas e).short in omega arith;
            few = (B.done.areas e).few;
          };
          goes = λ e H U S Γ D C r I. let F = I.0 in let J = I.1 in
              let F₁ = first_fresh U F in
              let D₁ = globals_if global D in
              let c₁ = rest Γ D₁ r in
              let turn = X.in_turn Γ D₁ r c₁ in
              let W₁ = W H U S Γ D C F₁ r J in
              let W₂ = B.done.goes e (H ⨾ items Γ D₁ r) W₁.unknowns (walked₁ H U S Γ D C F₁ r J).steady Γ D (scoped₁ H U S Γ D C F₁ r J) (X.after Γ r) ((fresh₁ H U S Γ D C F₁ r J), (signature₁ H U S Γ D C F₁ r J)) in
              let M = Owned (l ++ k) in
              let both = then_walked (alone Γ D₁ r) (all Γ D₁ r) c₁ turn H U W₁.unknowns W₂.unknowns M S
              (walked_mine H (items Γ D₁ r) U W₁.unknowns (Owned l) M (owned_left l k) (walked₁ H U S Γ D C F₁ r J))
              (walked_mine (H ⨾ items Γ D₁ r) c₁ W₁.unknowns W₂.unknowns (Owned k) M (owned_right l k) W₂.walked) in
              record {
                unknowns = W₂.unknowns;
                walked =
                    subst (λ z. Walked H z U W₂.unknowns (Owned (lines_numbers whole))) (sym (X.whole_items Γ D₁ r))
                    (subst (λ z. Walked H (grouped (all Γ D₁ r)) U W₂.unknowns (Owned z)) (sym X.numbers) both);
                signature =
                    subst (λ z. Carries (Placed s₂ d (H ⨾ z) W₂.unknowns) (lines_signature whole Γ r) (rows w₂ base m₂)) (sym (X.whole_items Γ D₁ r))
                    (subst (λ z. Carries (Placed s₂ d (H ⨾ grouped (all Γ D₁ r)) W₂.unknowns) z (rows w₂ base m₂))
                    (sym (X.whole_signature Γ r))
                    (carries_later s₂ d ((H ⨾ items Γ D₁ r) ⨾ c₁) (H ⨾ grouped (all Γ D₁ r))
                    W₂.unknowns W₂.unknowns (λ x i. i)
                    (λ τ h. (then_tables (alone Γ D₁ r) (all Γ D₁ r) c₁ turn H finite τ).1 h)
                    (lines_signature ls Γ (X.after Γ r)) (rows w₂ base m₂) W₂.signature));
              };
          stops = λ e H U S Γ D C r I. let F = I.0 in let J = I.1 in
              let F₁ = first_fresh U F in
              let D₁ = globals_if global D in
              let c₁ = rest Γ D₁ r in
              let W₁ = W H U S Γ D C F₁ r J in
              subst (λ z. Refuses z (MeetsIn H) number' place') (sym (X.whole_items Γ D₁ r))
              (then_refuses (alone Γ D₁ r) (all Γ D₁ r) c₁ (X.in_turn Γ D₁ r c₁) H number' place' (walked₁ H U S Γ D C F₁ r J).goes
              (B.done.stops e (H ⨾ items Γ D₁ r) W₁.unknowns (walked₁ H U S Γ D C F₁ r J).steady Γ D (scoped₁ H U S Γ D C F₁ r J) (X.after Γ r) ((fresh₁ H U S Γ D C F₁ r J), (signature₁ H U S Γ D C F₁ r J))));
        };
      }
