-- Lists of calls with their reply buffers: what each call shows is what the rules say, and one turn of a loop goes on with the whole list.
use Rattle.std.proofs.Common.{◌≡◌, ℕ, ◌+◌, ◌<◌, ◌≤◌, Bool, true, false, cond, ltb, List, [], ◌∷◌, ◌++◌, map, length, get_or, take, drop, set, Some, None, Option, Result, sym, refl, ap, ◌∙◌, arith}
use Rattle.std.proofs.lemmas.List.{take_more_set, drop_more, drop-set-lt, map_push, append_assoc, append-nil, drop_all, take_all}
use Rattle.wire.specs.Frames.{written}
use Rattle.packets.specs.Address.{Parts, parts, matches}
use Rattle.packets.specs.Receiver.{Packet, hear}
use Rattle.rules.specs.declared.port.Port.{Port}
use Rattle.rules.specs.declared.refusal.Refusal.{Refusal}
use Rattle.rules.specs.declared.refusal.Refusal.TheVariants.{ShortBuffer}
use Rattle.rules.specs.PerPort.{port_of}
use Rattle.rules.specs.State.{State, port_at, with_port, with_receiver}
use Rattle.rules.specs.Calls.{byte, Answer, Outcome, refused, if_matching, if_addressed, packet_step, byte_step, shortest_buffer, step, event_at, reply_in, byte_event, along, ending, final, Lent, next_lent}
use lib.Seq.{take-append_seam}

-- ---- a byte call by what came back

-- the answer of a byte call: a reply of the length that is returned, or a refusal without one
abbrev pub SizedAnswer : Answer → Type 0
SizedAnswer a = (xs : List ℕ) → reply_in a.result (written a.reply xs) ≡ a.reply

if_matching_sized : (m : Bool) (s : State) (p : Port) (k : Packet) (a : Parts) → SizedAnswer (if_matching m s p k a).answer
if_matching_sized false s p k a xs = refl
if_matching_sized true s p k a xs = take-append_seam _ _

if_addressed_sized : (s : State) (p : Port) (k : Packet) (a : Option Parts) → SizedAnswer (if_addressed s p k a).answer
if_addressed_sized s p k None xs = refl
if_addressed_sized s p k (Some a) xs = if_matching_sized (matches s.address a.high a.low) s p k a xs

packet_sized : (s : State) (p : Port) (k : Option Packet) → SizedAnswer (packet_step s p k).answer
packet_sized s p None xs = refl
packet_sized s p (Some k) xs = if_addressed_sized s p k (parts k.listed.items) xs

byte_step_sized : (s : State) (b : ℕ) (p : Option Port) → SizedAnswer (byte_step s b p).answer
byte_step_sized s b None xs = refl
byte_step_sized s b (Some p) xs = packet_sized (with_port p (with_receiver (hear (port_at s p).receiver b).next (port_at s p)) s) p (hear (port_at s p).receiver b).packet xs

either_sized : (b : Bool) (x y : Outcome) → SizedAnswer x.answer → SizedAnswer y.answer → SizedAnswer (cond b x y).answer
either_sized true x y f g = f
either_sized false x y f g = g

pub byte_sized : (s : State) (n b room : ℕ) → SizedAnswer (step s (byte n b room)).answer
byte_sized s n b room = either_sized (ltb room shortest_buffer) (refused s ShortBuffer) (byte_step s b (port_of n)) (λ xs. refl) (byte_step_sized s b (port_of n))

-- what a byte call returned and left in its buffer shows the event that the rules define
pub byte_event_is : (s : State) (n b : ℕ) (before after : List ℕ) (r : Result ℕ Refusal) → length after ≡ length before
    → r ≡ (step s (byte n b (length before))).answer.result → after ≡ written (step s (byte n b (length before))).answer.reply before
    → byte_event n b r after ≡ event_at s (byte n b (length before))
byte_event_is s n b before after r long result left =
    let a : Answer = (step s (byte n b (length before))).answer in
    let reply : reply_in r after ≡ a.reply = ap (λ (x : Result ℕ Refusal). reply_in x after) result ∙ ap (reply_in a.result) left ∙ byte_sized s n b (length before) before in
    λ i. record { call = byte n b (long i); answer = record { result = result i; reply = reply i } }

-- ---- lists with buffers

pub final_lent_is : (s : State) (ls : List Lent) → ending next_lent s ls ≡ final s (map (λ (l : Lent). l.call) ls)
unfolding ending
final_lent_is s [] = refl
final_lent_is s (l ∷ ls) = final_lent_is (next_lent s l) ls

-- ---- a list that is served in place

-- X is what stands in the list; L is what it asks, and E what it shows afterwards
module _ {X S L E : Type 0} (gives : S → L → E) (goes_to : S → L → S) (asks : X → L) (shows : X → E) where
  unfoldable pub WholeRun : S → List X → ℕ → S → List X → Type 0
  WholeRun s₀ xs₀ k s xs =
      (map shows (take k xs) ++ along gives goes_to s (map asks (drop k xs)) ≡ along gives goes_to s₀ (map asks xs₀))
      × (ending goes_to s (map asks (drop k xs)) ≡ ending goes_to s₀ (map asks xs₀))

  pub run_begins : (s : S) (xs : List X) → WholeRun s xs 0 s xs
  unfolding WholeRun
  run_begins s xs = (refl, refl)

  pub run_goes_on : (s₀ : S) (xs₀ : List X) (k : ℕ) (s t : S) (xs : List X) (x y : X) → k < length xs
      → shows y ≡ gives s (asks (get_or xs k x)) → t ≡ goes_to s (asks (get_or xs k x))
      → WholeRun s₀ xs₀ k s xs → WholeRun s₀ xs₀ (k + 1) t (set xs k y)
  unfolding WholeRun along ending
  run_goes_on s₀ xs₀ k s t xs x y within shown after v =
      let rest : List L = map asks (drop (k + 1) xs) in
      let rest_is : drop (k + 1) (set xs k y) ≡ drop (k + 1) xs = drop-set-lt (k + 1) xs k y (omega arith) in
      let left : along gives goes_to s (map asks (drop k xs)) ≡ shows y ∷ along gives goes_to t rest =
      ap (λ (l : List X). along gives goes_to s (map asks l)) (drop_more xs k x within)
      ∙ ap (λ (e : E). e ∷ along gives goes_to (goes_to s (asks (get_or xs k x))) rest) (sym shown)
      ∙ ap (λ (u : S). shows y ∷ along gives goes_to u rest) (sym after) in (
        ap (λ (l : List X). map shows l ++ along gives goes_to t (map asks (drop (k + 1) (set xs k y)))) (take_more_set xs k y within)
            ∙ ap (λ (l : List X). map shows (take k xs ++ (y ∷ [])) ++ along gives goes_to t (map asks l)) rest_is
            ∙ ap (λ (l : List E). l ++ along gives goes_to t rest) (map_push shows (take k xs) y)
            ∙ append_assoc (map shows (take k xs)) (shows y ∷ []) (along gives goes_to t rest)
            ∙ ap (λ (l : List E). map shows (take k xs) ++ l) (sym left)
            ∙ v.0,
        ap (λ (l : List X). ending goes_to t (map asks l)) rest_is
            ∙ ap (λ (u : S). ending goes_to u rest) after
            ∙ sym (ap (λ (l : List X). ending goes_to s (map asks l)) (drop_more xs k x within))
            ∙ v.1,
      )

  pub run_ends : (s₀ : S) (xs₀ : List X) (k : ℕ) (s : S) (xs : List X) → length xs ≤ k → WholeRun s₀ xs₀ k s xs
      → (map shows xs ≡ along gives goes_to s₀ (map asks xs₀)) × (s ≡ ending goes_to s₀ (map asks xs₀))
  unfolding WholeRun along ending
  run_ends s₀ xs₀ k s xs end v = (
    sym (ap (λ (l : List X). map shows (take k xs) ++ along gives goes_to s (map asks l)) (drop_all k xs end) ∙ append-nil (map shows (take k xs)) ∙ ap (map shows) (take_all k xs end)) ∙ v.0,
    sym (ap (λ (l : List X). ending goes_to s (map asks l)) (drop_all k xs end)) ∙ v.1,
  )
