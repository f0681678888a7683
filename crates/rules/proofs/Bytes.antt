-- What a reply tells its reader, and what an event of one byte adds to what is known from outside.
use Rattle.std.proofs.Common.{◌≡◌, ℕ, ◌<◌, ◌≤◌, Bool, true, false, cond, ◌⊎◌, List, [], ◌∷◌, take, Some, None, Ok, Option, sym, refl, ap, ◌∙◌, subst, inl, inr, ⊎_elim, arith}
use Rattle.fabric.specs.Meaning.{Meaning}
use Rattle.packets.specs.Receiver.{Receiver, hear}
use Rattle.packets.specs.Commands.{Command, ask_flags, ask_version, lock_keypad, show_keypad, unlock_keypad, read_queue, lock_ethernet, ask_login, lock_output, set_output, unlock_output, ask_input, ask_status, unlock_ethernet, set_password, set_mask, log_in}
use Rattle.replies.specs.Queues.{most_queued}
use Rattle.replies.specs.Replies.{feeding_input, status, changes, ack, reply_bytes, read_reply, begins_with_ack}
use Rattle.rules.specs.declared.port.PerPort.{PerPort}
use Rattle.rules.specs.declared.port.Port.{Port}
use Rattle.rules.specs.declared.port.Port.TheVariants.{One, Two, Three}
use Rattle.rules.specs.PerPort.{at, set_at, number_of, port_of}
use Rattle.rules.specs.State.{State, port_at, is_locked, feeding, mask_byte, with_port, with_receiver}
use Rattle.rules.specs.Commands.{effect, contents}
use Rattle.rules.specs.Calls.{byte, Event}
use Rattle.rules.specs.Table.{Table, Asked, the_input, the_queue, nothing, asked, asked_by, command_of, accepted_command, updated, Told, told, told_by, told_in, packet_at, accepted_at, receiver_after, table}
use Rattle.rules.specs.History.{Accepted, switched_by, switched_at, with_accepted, accepted_in}
use Rattle.rules.specs.Standing.{changes_since}
use Rattle.rules.specs.Laws.{Tells, AskerTold}
use Rattle.replies.proofs.ReadBack.{reads_back}
use Rattle.rules.proofs.Queues.{PortRight}
use Rattle.rules.proofs.Switchings.{Agrees, both_set, feed_small}

-- ---- what is known after a history

abbrev pub receivers : List Event → PerPort Receiver
receivers h = record { one = receiver_after One h; two = receiver_after Two h; three = receiver_after Three h }

abbrev pub tables : List Event → PerPort Table
tables h = record { one = table One h; two = table Two h; three = table Three h }

-- the state s agrees with the history h, of a unit whose outputs started on f₀
abbrev pub AgreesWith : (ℕ → ℕ) → State → List Event → Type 0
AgreesWith f₀ s h = Agrees f₀ s (receivers h) (tables h) (accepted_in h)

-- where a Q of a port was accepted, the queue of that port is empty afterwards
abbrev pub Emptied : List Event → Event → State → Type 0
Emptied h e t = (p : Port) → accepted_at p h e ≡ the_queue → (port_at t p).queue.items ≡ []

pub nothing_is_no_queue : nothing ≡ the_queue → ⊥
nothing_is_no_queue e = cc

-- the receiver goes on
pub moved_agrees : (f₀ : ℕ → ℕ) (s : State) (rs : PerPort Receiver) (ts : PerPort Table) (xs : List Accepted) (p : Port) (r : Receiver) → Agrees f₀ s rs ts xs
    → Agrees f₀ (with_port p (with_receiver r (port_at s p)) s) (set_at rs p r) ts xs
moved_agrees f₀ s rs ts xs p r v = record {
  sound = v.sound;
  ports = both_set (λ q l x. PortRight (feeding s) (at ts q) l x) rs s.ports p r (with_receiver r (port_at s p)) v.ports
      (let w = v.ports p in record { receiver = refl; few = w.few; small = w.small; right = w.right });
  kept = v.kept;
  fed = v.fed;
}

-- ---- what the reply to an accepted command tells

low : (b : Bool) (k : ℕ) → cond b k 0 ≤ k
low true k = omega arith
low false k = omega arith

mask_small : (s : State) (o : ℕ) → mask_byte s o < 256
mask_small s o = omega (arith, low (s.masks o 1) 1, low (s.masks o 2) 2, low (s.masks o 3) 4, low (s.masks o 4) 8, low (s.masks o 5) 16, low (s.masks o 6) 32, low (s.masks o 7) 64, low (s.masks o 8) 128)

module _ (f₀ : ℕ → ℕ) (s : State) (rs : PerPort Receiver) (ts : PerPort Table) (xs : List Accepted) (v : Agrees f₀ s rs ts xs) (p : Port) (h l : ℕ) where
  queue_told : told_by (read_reply (reply_bytes h l (ack (contents s p read_queue)))) ≡ told (contents s p read_queue)
  queue_told = ap told_by (reads_back h l (ack (changes (port_at s p).queue.items)) ((v.ports p).few, (v.ports p).small))

  input_told : (o : ℕ) → told_by (read_reply (reply_bytes h l (ack (contents s p (ask_input o))))) ≡ told (contents s p (ask_input o))
  input_told o = ap told_by (reads_back h l (ack (feeding_input (feeding s o))) (feed_small s.fabric v.sound o))

  status_told : (o : ℕ) → told_by (read_reply (reply_bytes h l (ack (contents s p (ask_status o))))) ≡ told (contents s p (ask_status o))
  status_told o = ap told_by (reads_back h l (ack (status (feeding s o) (is_locked s o) (mask_byte s o))) (feed_small s.fabric v.sound o, mask_small s o))

  pub updated_by_reply : (t : Table) (c : Command) → updated t (asked c) (told_by (read_reply (reply_bytes h l (ack (contents s p c))))) ≡ updated t (asked c) (told (contents s p c))
  updated_by_reply t ask_flags = refl
  updated_by_reply t ask_version = refl
  updated_by_reply t lock_keypad = refl
  updated_by_reply t show_keypad = refl
  updated_by_reply t unlock_keypad = refl
  updated_by_reply t read_queue = ap (updated t the_queue) queue_told
  updated_by_reply t lock_ethernet = refl
  updated_by_reply t ask_login = refl
  updated_by_reply t (lock_output o i) = refl
  updated_by_reply t (set_output o i) = refl
  updated_by_reply t (unlock_output o i) = refl
  updated_by_reply t (ask_input o) = ap (updated t (the_input o)) (input_told o)
  updated_by_reply t (ask_status o) = ap (updated t (the_input o)) (status_told o)
  updated_by_reply t (unlock_ethernet w) = refl
  updated_by_reply t (set_password w) = refl
  updated_by_reply t (set_mask g b o) = refl
  updated_by_reply t (log_in n w) = refl

  pub tells_by_reply : (c : Command) → Tells (effect s p c) (port_at s p).queue.items (asked c) (told_by (read_reply (reply_bytes h l (ack (contents s p c)))))
  tells_by_reply ask_flags = tt
  tells_by_reply ask_version = tt
  tells_by_reply lock_keypad = tt
  tells_by_reply show_keypad = tt
  tells_by_reply unlock_keypad = tt
  tells_by_reply read_queue = queue_told
  tells_by_reply lock_ethernet = tt
  tells_by_reply ask_login = tt
  tells_by_reply (lock_output o i) = tt
  tells_by_reply (set_output o i) = tt
  tells_by_reply (unlock_output o i) = tt
  tells_by_reply (ask_input o) = input_told o
  tells_by_reply (ask_status o) = status_told o
  tells_by_reply (unlock_ethernet w) = tt
  tells_by_reply (set_password w) = tt
  tells_by_reply (set_mask g b o) = tt
  tells_by_reply (log_in n w) = tt

-- Q alone asks for the queue, and empties it
pub emptied_by : (s : State) (p : Port) (c : Command) → asked c ≡ the_queue → (port_at (effect s p c) p).queue.items ≡ []
emptied_by s p ask_flags e = absurd (nothing_is_no_queue e)
emptied_by s p ask_version e = absurd (nothing_is_no_queue e)
emptied_by s p lock_keypad e = absurd (nothing_is_no_queue e)
emptied_by s p show_keypad e = absurd (nothing_is_no_queue e)
emptied_by s p unlock_keypad e = absurd (nothing_is_no_queue e)
emptied_by s One read_queue e = refl
emptied_by s Two read_queue e = refl
emptied_by s Three read_queue e = refl
emptied_by s p lock_ethernet e = absurd (nothing_is_no_queue e)
emptied_by s p ask_login e = absurd (nothing_is_no_queue e)
emptied_by s p (lock_output o i) e = absurd cc
emptied_by s p (set_output o i) e = absurd cc
emptied_by s p (unlock_output o i) e = absurd cc
emptied_by s p (ask_input o) e = absurd cc
emptied_by s p (ask_status o) e = absurd cc
emptied_by s p (unlock_ethernet w) e = absurd (nothing_is_no_queue e)
emptied_by s p (set_password w) e = absurd (nothing_is_no_queue e)
emptied_by s p (set_mask g b o) e = absurd (nothing_is_no_queue e)
emptied_by s p (log_in n w) e = absurd (nothing_is_no_queue e)

-- ---- an event of one byte

pub port_again : (p : Port) → port_of (number_of p) ≡ Some p
port_again One = refl
port_again Two = refl
port_again Three = refl

pub either_none : (w : Bool) → cond {A = Option Command} w None None ≡ None
either_none true = refl
either_none false = refl

module _ (h : List Event) (p : Port) (b room n : ℕ) (ys : List ℕ) where
  abbrev pub heard : Event
  heard = record { call = byte (number_of p) b room; answer = record { result = Ok n; reply = ys } }

  -- no other port has a packet of it
  pub elsewhere : (q : Port) → (accepted_command q h heard ≡ None) ⊎ (p ≡ q)
  elsewhere q = by p q
    where
      by : (p q : Port) → (accepted_command q h (record { call = byte (number_of p) b room; answer = record { result = Ok n; reply = ys } }) ≡ None) ⊎ (p ≡ q)
      by One One = inr refl
      by One Two = inl (either_none (begins_with_ack ys))
      by One Three = inl (either_none (begins_with_ack ys))
      by Two One = inl (either_none (begins_with_ack ys))
      by Two Two = inr refl
      by Two Three = inl (either_none (begins_with_ack ys))
      by Three One = inl (either_none (begins_with_ack ys))
      by Three Two = inl (either_none (begins_with_ack ys))
      by Three Three = inr refl

  pub accepted_as : (a : Asked) → accepted_at p h heard ≡ a → accepted_in (heard ∷ h) ≡ with_accepted (switched_by a) (accepted_in h)
  unfolding accepted_in
  accepted_as a e =
      ap (λ (q : Option Port). with_accepted (switched_at q h heard) (accepted_in h)) (port_again p)
      ∙ ap (λ (z : Asked). with_accepted (switched_by z) (accepted_in h)) e

  -- the reply, if there is one, does not begin with ACK
  module _ (e : begins_with_ack ys ≡ false) where
    pub no_command : (q : Port) → accepted_command q h heard ≡ None
    no_command q = ap (λ (x : Bool). cond x (command_of (packet_at q h heard)) None) e

    pub without_ack : (q : Port) → accepted_at q h heard ≡ nothing
    without_ack q = ap asked_by (no_command q)

    pub tables_without_ack : tables (heard ∷ h) ≡ tables h
    unfolding table
    tables_without_ack = λ i. record {
      one = updated (table One h) (without_ack One i) (told_in heard);
      two = updated (table Two h) (without_ack Two i) (told_in heard);
      three = updated (table Three h) (without_ack Three i) (told_in heard);
    }

    pub emptied_without_ack : (t : State) → Emptied h heard t
    emptied_without_ack t q a = absurd (nothing_is_no_queue (sym (without_ack q) ∙ a))

    pub told_without_ack : (m : Meaning) (t : State) → AskerTold m h heard t
    told_without_ack m t q = subst (λ (a : Asked). Tells t (take most_queued (changes_since m q h)) a (told_in heard)) (sym (without_ack q)) tt

  -- the packet that the byte ended was accepted, and asked for a
  module _ (a : Asked) (e : accepted_at p h heard ≡ a) where
    pub emptied_with_ack : (t : State) → (a ≡ the_queue → (port_at t p).queue.items ≡ []) → Emptied h heard t
    emptied_with_ack t g q f =
        ⊎_elim (λ z. absurd (nothing_is_no_queue (sym (ap asked_by z) ∙ f)))
        (λ z. subst (λ (q : Port). accepted_at q h heard ≡ the_queue → (port_at t q).queue.items ≡ []) z (λ f. g (sym e ∙ f)) f) (elsewhere q)

    pub told_with_ack : (m : Meaning) (t : State) → Tells t (take most_queued (changes_since m p h)) a (told_in heard) → AskerTold m h heard t
    told_with_ack m t g q =
        ⊎_elim (λ z. subst (λ (x : Asked). Tells t (take most_queued (changes_since m q h)) x (told_in heard)) (sym (ap asked_by z)) tt)
        (λ z. subst (λ (q : Port). Tells t (take most_queued (changes_since m q h)) (accepted_at q h heard) (told_in heard)) z (subst (λ (x : Asked). Tells t (take most_queued (changes_since m p h)) x (told_in heard)) (sym e) g)) (elsewhere q)

module _ (h : List Event) (b room n : ℕ) (ys : List ℕ) where
  pub receivers_heard : (p : Port) (r : Receiver) → (hear (receiver_after p h) b).next ≡ r → receivers (heard h p b room n ys ∷ h) ≡ set_at (receivers h) p r
  unfolding receiver_after
  receivers_heard One r e = λ i. record { one = e i; two = receiver_after Two h; three = receiver_after Three h }
  receivers_heard Two r e = λ i. record { one = receiver_after One h; two = e i; three = receiver_after Three h }
  receivers_heard Three r e = λ i. record { one = receiver_after One h; two = receiver_after Two h; three = e i }

  pub command_own : (p : Port) (c : Option Command) → command_of (hear (receiver_after p h) b).packet ≡ c → begins_with_ack ys ≡ true → accepted_command p h (heard h p b room n ys) ≡ c
  command_own One c k e = ap (λ (x : Bool). cond x (command_of (packet_at One h (heard h One b room n ys))) None) e ∙ k
  command_own Two c k e = ap (λ (x : Bool). cond x (command_of (packet_at Two h (heard h Two b room n ys))) None) e ∙ k
  command_own Three c k e = ap (λ (x : Bool). cond x (command_of (packet_at Three h (heard h Three b room n ys))) None) e ∙ k

  none : (t : Table) (m : Told) → updated t (asked_by (cond (begins_with_ack ys) None None)) m ≡ t
  none t m = ap (λ (x : Option Command). updated t (asked_by x) m) (either_none (begins_with_ack ys))

  pub tables_with_ack : (p : Port) (a : Asked) → accepted_at p h (heard h p b room n ys) ≡ a
      → tables (heard h p b room n ys ∷ h) ≡ set_at (tables h) p (updated (at (tables h) p) a (told_in (heard h p b room n ys)))
  unfolding table
  tables_with_ack One a e = let m = told_in (heard h One b room n ys) in λ i. record { one = updated (table One h) (e i) m; two = none (table Two h) m i; three = none (table Three h) m i }
  tables_with_ack Two a e = let m = told_in (heard h Two b room n ys) in λ i. record { one = none (table One h) m i; two = updated (table Two h) (e i) m; three = none (table Three h) m i }
  tables_with_ack Three a e = let m = told_in (heard h Three b room n ys) in λ i. record { one = none (table One h) m i; two = none (table Two h) m i; three = updated (table Three h) (e i) m }
