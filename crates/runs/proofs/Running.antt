-- A run, call by call.
--     Ran k g xs ys₀ ys o i   after i calls of xs the replies ys₀ have become ys, and the reader holds o
use Rattle.std.proofs.Common.{◌≡◌, ℕ, ◌+◌, ◌<◌, ◌≤◌, ◌≢◌, List, ◌∷◌, length, get_or, set, Option, sym, refl, ap, ◌∙◌, subst, add-one, arith, get_or-set_other, get_or-set_same, below_more}
use Rattle.algebra.specs.Fields.{Symbols}
use Rattle.algebra.specs.Groups.{Dots}
use Rattle.reader.specs.Histories as past
use Rattle.runs.specs.Runs.{ReadFaithfully, RunsLawfully, Served, call_at, history, reply_at, spoken}
use Rattle.reader.specs.Stored.{Lived, code_of}
use Rattle.reader.specs.declared.code.Code.{Code}
use Rattle.runs.specs.declared.runs.Call.{Call}
use Rattle.runs.specs.declared.runs.Call.TheVariants.{Clear}
use Rattle.runs.specs.declared.runs.Reply.{Reply}
use Rattle.reader.proofs.InForce.{in_force_unique}

pub record Ran (k : Symbols) (g : Dots) (xs : List Call) (ys₀ ys : List Reply) (o : Option Code) (i : ℕ) : Type 0 where
  pub lived : Lived k g (history xs i) o
  pub lawful : RunsLawfully k g xs ys i
  pub rest : (j : ℕ) → i ≤ j → reply_at ys j ≡ reply_at ys₀ j

module _ (k : Symbols) (g : Dots) (xs : List Call) where
  pub ran_none : (ys : List Reply) (o : Option Code) → Lived k g (history xs 0) o → Ran k g xs ys ys o 0
  ran_none ys o first = record {
    lived = first;
    lawful = record { served = λ i below. absurd (omega arith); read = λ i below. absurd (omega arith) };
    rest = λ _ _. refl;
  }

  module _ (ys₀ ys : List Reply) (o o' : Option Code) (i : ℕ) (y : Reply) (before : Ran k g xs ys₀ ys o i) (below : i < length ys) where
    old : (j : ℕ) → j ≢ i → reply_at ys j ≡ reply_at (set ys i y) j
    old j other = sym (get_or-set_other ys i j y _ other)

    new : y ≡ reply_at (set ys i y) i
    new = sym (get_or-set_same ys i y _ below)

    -- what a call promises
    abbrev Step : past.Call → Type 0
    Step x =
        Served k g (code_of g.order o) x y × ((past : List past.Call) → Lived k g past o → Lived k g (x ∷ past) o')
        × ((past : List past.Call) → Lived k g past o → ReadFaithfully k g past x y)

    pub ran_more : (x : Call) → x ≡ get_or xs i Clear → Step (spoken x) → Ran k g xs ys₀ (set ys i y) o' (i + 1)
    ran_more x e promised = more (subst Step (ap spoken e) promised)
      where
        more : Step (call_at xs i) → Ran k g xs ys₀ (set ys i y) o' (i + 1)
        more (answer, lived, law) = record {
          lived = rw add-one (lived _ before.lived);
          lawful = record {
            served = below_more _ i
                (λ j lt c force. subst (Served k g c (call_at xs j)) (old j (λ e. omega arith)) (before.lawful.served j lt c force))
                (λ c force. subst (Served k g c (call_at xs i)) new
                (subst (λ c. Served k g c (call_at xs i) y) (in_force_unique before.lived.0 force) answer));
            read = below_more _ i
                (λ j lt. subst (ReadFaithfully k g (history xs j) (call_at xs j)) (old j (λ e. omega arith)) (before.lawful.read j lt))
                (subst (ReadFaithfully k g (history xs i) (call_at xs i)) new (law _ before.lived));
          };
          rest = λ j le. sym (old j (λ e. omega arith)) ∙ before.rest j (omega arith);
        }
