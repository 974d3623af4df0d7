-- The outputs of a call: zeros before it, and what a reply has of them after it.
use Rattle.std.proofs.Common.{◌≡◌, ℕ, zero, suc, ◌<◌, ◌≤◌, min, List, length, IsOkAnd, MatchResult, Ok, Err, get_or, take, replicate, Option, Result, sym, ap, ◌∙◌, subst, arith}
use native.Mathlib.Nat.{min-eq_left, min-le_right}
use lib.ListN.{length-replicate}
use Rattle.std.proofs.lemmas.List.{get_or-take, length-take-le, take-replicate}
use Rattle.algebra.specs.Fields.{Symbols}
use Rattle.algebra.specs.Groups.{Dots}
use Rattle.algebra.specs.declared.fault.Fault.{Fault}
use Rattle.words.specs.Words.{at, tabulate}
use Rattle.words.proofs.Tabulate.{at_tabulate, length_tabulate, word_ext}
use Rattle.reader.specs.Calls.{Code, Reads}
use Rattle.codes.specs.GroupCodes.{Rising}
use Rattle.reader.specs.Histories.{Call, ReadLaw, ReadsLawfully, read}
use Rattle.runs.specs.Runs.{ReadFaithfully, Served, carried, reply, zeros}
use Rattle.reader.specs.declared.record.ReadRecord.{ReadRecord}
use Rattle.runs.specs.declared.runs.Answer.{Answer}
use Rattle.runs.specs.declared.runs.Answer.TheVariants.{Mended}
use Rattle.runs.specs.declared.runs.Reply.{Reply}

pub cut_zeros : (m r : ℕ) → r ≡ min m 65 → take r (replicate 65 0) ≡ zeros m
cut_zeros m r e =
    let most : r ≤ 65 = subst (λ x. x ≤ 65) (sym e) (min-le_right m 65) in
    take-replicate r 65 0 most ∙ ap (λ x. replicate x 0) e

zeros_long : (m : ℕ) (b : List ℕ) → b ≡ zeros m → m ≤ 64 → length b ≡ m
zeros_long m b e most = ap length e ∙ length-replicate (min m 65) 0 ∙ min-eq_left (omega arith)

-- what a reply has of an output of at most 64 bytes
take_shown : (n : ℕ) (w : List ℕ) → length w ≡ n → n ≤ 64 → take n (tabulate 64 (at w)) ≡ w
take_shown n w size most =
    let long : n ≤ length (tabulate 64 (at w)) = rw (length_tabulate 64 (at w)) most in
    word_ext {n = n} _ _ (length-take-le n (tabulate 64 (at w)) long) size
    (λ d below. get_or-take n (tabulate 64 (at w)) d 0 below ∙ at_tabulate 64 (at w) d (omega arith))

rising_from : (ds : List ℕ) → Rising ds → (i : ℕ) → i < length ds → i ≤ get_or ds i 0
rising_from ds rising zero below = omega arith
rising_from ds rising (suc i) below =
    let before = rising_from ds rising i (omega arith) in
    let next = rising i (suc i) (omega arith) below in omega arith

rising_few : (ds : List ℕ) (n : ℕ) → Rising ds → ((i : ℕ) → i < length ds → get_or ds i 0 < n) → (m : ℕ) → m ≡ length ds → m ≤ n
rising_few ds n rising below zero e = omega arith
rising_few ds n rising below (suc m) e =
    let from = rising_from ds rising m (omega arith) in
    let last = below m (omega arith) in omega arith

pub carried_mapped : {X : Type 0} (f : X → Answer) (r : Result X Fault) (s : Result Answer Fault) (P : X → Answer → Type 0) → MatchResult r (λ x. IsOkAnd s (P x)) (λ e. s ≡ Err e)
    → ((x : X) (y : Answer) → P x y → y ≡ f x) → s ≡ carried f r
carried_mapped f (Ok x) (Ok y) P called gives = ap Ok (gives x y called)
carried_mapped f (Ok x) (Err e) P none gives = absurd none
carried_mapped f (Err e) s P is gives = is

module _ (k : Symbols) (g : Dots) (c : Option Code) where
  pub read_served : (r : List ℕ) (b m : ℕ) (b₀ m₀ : List ℕ) (a : Result ReadRecord Fault) (w v : List ℕ) (y : Reply) → b₀ ≡ zeros b → m₀ ≡ zeros m
      → y ≡ reply (carried Mended a) w v → Reads k g c r b₀ m₀ a w v → Served k g c (read r b m) y
  read_served r b m b₀ m₀ a w v y eb em ey told =
      (a, w, v, subst (λ z. Reads k g c r z (zeros m) a w v) eb (subst (λ z. Reads k g c r b₀ z a w v) em told), ey)

module _ (k : Symbols) (g : Dots) (few : g.order ≤ 64) where
  pub read_faithfully : (past : List Call) (r : List ℕ) (b m : ℕ) (b₀ m₀ : List ℕ) (a : Result ReadRecord Fault) (w v : List ℕ) (y : Reply)
      → b₀ ≡ zeros b → m₀ ≡ zeros m → length w ≡ length b₀ → length v ≡ length m₀ → y ≡ reply (carried Mended a) w v
      → ReadsLawfully k g past r (length b₀) (length m₀) a w v → ReadFaithfully k g past (read r b m) y
  read_faithfully past r b m b₀ m₀ a w v y eb em lw lv ey law = (
    a,
    ap (λ z. z.answer) ey,
    λ c ds force ok.
        let b_few : b ≤ 64 = subst (λ x. x ≤ 64) (sym ok.mended_length) few in
        let m_few : m ≤ g.order = rising_few ds g.order ok.dots.0 (λ i h. (ok.dots.1 i h).0) m ok.message_length in
        let b_long = zeros_long b b₀ eb b_few in
        let m_long = zeros_long m m₀ em (omega arith) in
        let told = law c ds force (record {
          dots = ok.dots;
          received = ok.received;
          mended_length = b_long ∙ ok.mended_length;
          message_length = m_long ∙ ok.message_length;
        }) in
        subst (λ z. ReadLaw k g c.word c.radius ds r a (take b z.mark) (take m z.message)) (sym ey)
        (subst (λ u. ReadLaw k g c.word c.radius ds r a u (take m (tabulate 64 (at v)))) (sym (take_shown b w (lw ∙ b_long) b_few))
        (subst (ReadLaw k g c.word c.radius ds r a w) (sym (take_shown m v (lv ∙ m_long) (omega arith))) told)),
  )
