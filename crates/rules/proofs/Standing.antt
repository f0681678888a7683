-- Each event leaves the unit as its history says: what an accepted command or call does to the state is what it adds to what stands.
use Rattle.std.proofs.Common.{◌≡◌, ℕ, Bool, true, false, cond, not, ◌&&◌, ◌||◌, eqb, List, [], ◌∷◌, ◌++◌, Some, None, Option, unwrap_or, sym, refl, ap, ◌∙◌, subst}
use Rattle.wire.specs.Kept.{Kept, empty, put, put_all, firsts}
use Rattle.wire.proofs.Keeping.{firsts_more, firsts-none}
use Rattle.fabric.specs.Meaning.{Meaning, routed}
use Rattle.packets.specs.Receiver.{Receiver, idle}
use Rattle.packets.specs.Commands.{Command, ask_flags, ask_version, lock_keypad, show_keypad, unlock_keypad, read_queue, lock_ethernet, ask_login, lock_output, set_output, unlock_output, ask_input, ask_status, unlock_ethernet, set_password, set_mask, log_in}
use Rattle.replies.specs.Queues.{most_queued}
use Rattle.replies.specs.declared.change.Change.{Change}
use Rattle.rules.specs.declared.port.PerPort.{PerPort}
use Rattle.rules.specs.declared.port.Port.{Port}
use Rattle.rules.specs.declared.port.Port.TheVariants.{One, Two, Three}
use Rattle.rules.specs.PerPort.{at, set_at, three}
use Rattle.rules.specs.State.{User, PortState, State, service, port_at, is_locked, feeding, with_port, with_receiver, with_login, with_lock, with_fabric, with_user}
use Rattle.rules.specs.Switching.{same, differs, note_if, noted}
use Rattle.rules.specs.Commands.{effect, cleared, flag_if, do_mask, user_with}
use Rattle.rules.specs.Calls.{Event}
use Rattle.rules.specs.History.{Accepted, was_set, was_locked, was_unlocked, accepted_by, accepted_in, switched_by, with_accepted, locked_on, last_sent, lasting}
use Rattle.rules.specs.Table.{asked, receiver_after}
use Rattle.rules.specs.Standing.{Effects, no_effect, effects, effects_at, effects_in, keypad_after, ethernet_after, password_after, with_bit, masks_after, was_accepted, entry_by, with_entry, users_after, hangs_up, login_by, login_after, altered_by, mask_flag_after, is_some, is_held, output_of, input_after, changed, change_by, changes_since, standing_port, standing}
use Rattle.rules.proofs.Switchings.{all_set, all_each, both_set}

-- ---- what stands, but for receivers, feeding inputs and locks of outputs

pub record PortStands (m : Meaning) (h : List Event) (q : Port) (x : PortState) : Type 0 where
  pub queue : x.queue ≡ firsts most_queued (changes_since m q h)
  pub mask_flag : x.mask_flag ≡ mask_flag_after q h
  pub login : x.login ≡ login_after q h

pub record Stands (a : ℕ) (on : Bool) (m : Meaning) (s : State) (h : List Event) : Type 0 where
  pub address : s.address ≡ a
  pub access : s.access ≡ on
  pub inputs : s.fabric.inputs ≡ m.inputs
  pub outputs : s.fabric.outputs ≡ m.outputs
  pub makeable : s.fabric.makeable ≡ m.makeable
  pub masks : s.masks ≡ masks_after h
  pub keypad : s.keypad ≡ keypad_after h
  pub ethernet : s.ethernet ≡ ethernet_after h
  pub password : s.password ≡ password_after h
  pub users : s.users ≡ users_after h
  pub ports : (q : Port) → PortStands m h q (port_at s q)

pub stands_at_start : (a : ℕ) (on : Bool) (m : Meaning) → Stands a on m (service a on m) []
unfolding keypad_after ethernet_after password_after masks_after users_after login_after mask_flag_after changes_since
stands_at_start a on m = record {
  address = refl;
  access = refl;
  inputs = refl;
  outputs = refl;
  makeable = refl;
  masks = λ i o g. true;
  keypad = refl;
  ethernet = refl;
  password = refl;
  users = λ i u. record { name = []; password = [] };
  ports = λ q. by q;
}
  where
    new : (q : Port) → PortStands m [] q (record { receiver = idle; queue = empty; mask_flag = false; login = None })
    new q = record { queue = firsts-none most_queued; mask_flag = refl; login = refl }

    by : (q : Port) → PortStands m [] q (port_at (service a on m) q)
    by One = new One
    by Two = new Two
    by Three = new Three

-- a receiver that goes on leaves all this
pub stands_moved : {a : ℕ} {on : Bool} (m : Meaning) (s : State) (h : List Event) (p : Port) (r : Receiver) → Stands a on m s h → Stands a on m (with_port p (with_receiver r (port_at s p)) s) h
stands_moved m s h p r v = record {
  address = v.address;
  access = v.access;
  inputs = v.inputs;
  outputs = v.outputs;
  makeable = v.makeable;
  masks = v.masks;
  keypad = v.keypad;
  ethernet = v.ethernet;
  password = v.password;
  users = v.users;
  ports = all_set (λ q x. PortStands m h q x) s.ports p (with_receiver r (port_at s p)) v.ports
      (let w = v.ports p in record { queue = w.queue; mask_flag = w.mask_flag; login = w.login });
}

-- ---- what an event is seen to do, and what it does to the state

-- x: the effects of its packet; y: the same by port; b: which port hangs up; u: the user entered; z: the setting, lock or unlock
pub record SeenAs (h : List Event) (e : Event) (x : Effects) (y : PerPort Effects) (b : PerPort Bool) (u : Option (ℕ × User)) (z : Option Accepted) : Type 0 where
  pub effects : effects_in h e ≡ x
  pub by_port : (q : Port) → effects_at q h e ≡ at y q
  pub hung_up : (q : Port) → (was_accepted e.answer.result && hangs_up q e.call) ≡ at b q
  pub entry : entry_by (was_accepted e.answer.result) e.call ≡ u
  pub switched : accepted_by h e e.call ≡ z

pub record PortGoes (m : Meaning) (xs : List Accepted) (s : State) (x : Effects) (z : Option Accepted) (y : Effects) (b : Bool) (old new : PortState) : Type 0 where
  pub queue : new.queue ≡ cond y.reads_queue empty (put_all most_queued old.queue (change_by m xs z))
  pub mask_flag : new.mask_flag ≡ cond y.reads_queue false (old.mask_flag || altered_by x.mask s.masks)
  pub login : new.login ≡ cond b None (login_by y.login s.users old.login)

pub record Goes (m : Meaning) (xs : List Accepted) (s t : State) (x : Effects) (y : PerPort Effects) (b : PerPort Bool) (u : Option (ℕ × User)) (z : Option Accepted) : Type 0 where
  pub address : t.address ≡ s.address
  pub access : t.access ≡ s.access
  pub inputs : t.fabric.inputs ≡ s.fabric.inputs
  pub outputs : t.fabric.outputs ≡ s.fabric.outputs
  pub makeable : t.fabric.makeable ≡ s.fabric.makeable
  pub masks : t.masks ≡ with_bit x.mask s.masks
  pub keypad : t.keypad ≡ unwrap_or x.keypad s.keypad
  pub ethernet : t.ethernet ≡ unwrap_or x.ethernet s.ethernet
  pub password : t.password ≡ unwrap_or x.password s.password
  pub users : t.users ≡ with_entry u s.users
  pub ports : (q : Port) → PortGoes m xs s x z (at y q) (at b q) (port_at s q) (port_at t q)

-- the queue goes on as the changes do
queue_on : (w : Bool) (k : Kept Change) (cs ds : List Change) → k ≡ firsts most_queued cs → cond w empty (put_all most_queued k ds) ≡ firsts most_queued (cond w [] (cs ++ ds))
queue_on true k cs ds e = firsts-none most_queued
queue_on false k cs ds e = ap (λ (j : Kept Change). put_all most_queued j ds) e ∙ firsts_more most_queued cs ds

pub stands_next : {a : ℕ} {on : Bool} (m : Meaning) (s t : State) (h : List Event) (e : Event) {x : Effects} {y : PerPort Effects} {b : PerPort Bool} {u : Option (ℕ × User)} {z : Option Accepted}
    → SeenAs h e x y b u z → Goes m (accepted_in h) s t x y b u z → Stands a on m s h → Stands a on m t (e ∷ h)
unfolding keypad_after ethernet_after password_after masks_after users_after login_after mask_flag_after changes_since
stands_next m s t h e {x} {y} {b} {u} {z} seen g v = record {
  address = g.address ∙ v.address;
  access = g.access ∙ v.access;
  inputs = g.inputs ∙ v.inputs;
  outputs = g.outputs ∙ v.outputs;
  makeable = g.makeable ∙ v.makeable;
  masks = g.masks ∙ (λ i o k. with_bit (sym seen.effects i).mask (v.masks i) o k);
  keypad = g.keypad ∙ (λ i. unwrap_or (sym seen.effects i).keypad (v.keypad i));
  ethernet = g.ethernet ∙ (λ i. unwrap_or (sym seen.effects i).ethernet (v.ethernet i));
  password = g.password ∙ (λ i. unwrap_or (sym seen.effects i).password (v.password i));
  users = g.users ∙ (λ i k. with_entry (sym seen.entry i) (v.users i) k);
  ports = λ q.
      let w = v.ports q in
      let n = g.ports q in
      record {
        queue =
            n.queue
            ∙ queue_on (at y q).reads_queue (port_at s q).queue (changes_since m q h) (change_by m (accepted_in h) z) w.queue
            ∙ (λ i. firsts most_queued (cond (sym (seen.by_port q) i).reads_queue [] (changes_since m q h ++ change_by m (accepted_in h) (sym seen.switched i))));
        mask_flag = n.mask_flag ∙ (λ i. cond (sym (seen.by_port q) i).reads_queue false (w.mask_flag i || altered_by (sym seen.effects i).mask (v.masks i)));
        login = n.login ∙ (λ i. cond (sym (seen.hung_up q) i) None (login_by (sym (seen.by_port q) i).login (v.users i) (w.login i)));
      };
}

-- ---- what agreement with the history says of feeding inputs and locks

lasting_is : (l : Bool) (f start : ℕ) (locked sent : Option ℕ) → locked ≡ cond l (Some f) None → f ≡ unwrap_or sent start → f ≡ lasting locked sent start
lasting_is true f start locked sent e g = subst (λ (x : Option ℕ). f ≡ lasting x sent start) (sym e) refl
lasting_is false f start locked None e g = subst (λ (x : Option ℕ). f ≡ lasting x None start) (sym e) g
lasting_is false f start locked (Some i) e g = subst (λ (x : Option ℕ). f ≡ lasting x (Some i) start) (sym e) g

held_is : (l : Bool) (f : ℕ) (locked : Option ℕ) → locked ≡ cond l (Some f) None → l ≡ is_some locked
held_is true f locked e = ap is_some (sym e)
held_is false f locked e = ap is_some (sym e)

module _ (m : Meaning) (s : State) (xs : List Accepted) (kept : (o : ℕ) → locked_on o xs ≡ cond (is_locked s o) (Some (feeding s o)) None) (fed : (o : ℕ) → feeding s o ≡ unwrap_or (last_sent o xs) (m.feeding o)) where
  pub input_is : (o : ℕ) → feeding s o ≡ input_after m o xs
  input_is o = lasting_is (is_locked s o) (feeding s o) (m.feeding o) _ _ (kept o) (fed o)

  pub lock_is : (o : ℕ) → is_locked s o ≡ is_held o xs
  lock_is o = held_is (is_locked s o) (feeding s o) _ (kept o)

-- ---- what each command and call does

or_false : (b : Bool) → b ≡ (b || false)
or_false true = refl
or_false false = refl

at_three : {R : Type 0} (P : Port → R → Type 0) (x : R) → ((q : Port) → P q x) → (q : Port) → P q (at (three x) q)
at_three P x h One = h One
at_three P x h Two = h Two
at_three P x h Three = h Three

module _ (m : Meaning) (xs : List Accepted) (s : State) where
  -- a port that stays as it is, while no queue is read and nobody logs in or hangs up
  same_port : (x : PortState) → PortGoes m xs s no_effect None no_effect false x x
  same_port x = record { queue = refl; mask_flag = or_false x.mask_flag; login = refl }

  pub goes_nowhere : Goes m xs s s no_effect (three no_effect) (three false) None None
  goes_nowhere = record {
    address = refl;
    access = refl;
    inputs = refl;
    outputs = refl;
    makeable = refl;
    masks = λ i k g. s.masks k g;
    keypad = refl;
    ethernet = refl;
    password = refl;
    users = λ i u. s.users u;
    ports = at_three (λ q y. PortGoes m xs s no_effect None y (at (three false) q) (port_at s q) (port_at s q)) no_effect
        (at_three (λ q b. PortGoes m xs s no_effect None no_effect b (port_at s q) (port_at s q)) false (λ q. same_port (port_at s q)));
  }

  -- what an accepted command of the port p may have done to the ports
  abbrev PortsGo : (t : State) (p : Port) (x : Effects) (z : Option Accepted) → Type 0
  PortsGo t p x z = (q : Port) → PortGoes m xs s x z (at (set_at (three no_effect) p x) q) (at (three false) q) (port_at s q) (port_at t q)

  ports_go : (t : State) (p : Port) (x : Effects) (z : Option Accepted) → ((q : Port) → PortGoes m xs s x z no_effect false (port_at s q) (port_at t q))
      → PortGoes m xs s x z x false (port_at s p) (port_at t p) → PortsGo t p x z
  ports_go t p x z others own =
      at_three (λ q b. PortGoes m xs s x z (at (set_at (three no_effect) p x) q) b (port_at s q) (port_at t q)) false
      (all_set (λ q y. PortGoes m xs s x z y false (port_at s q) (port_at t q)) (three no_effect) p x
      (at_three (λ q y. PortGoes m xs s x z y false (port_at s q) (port_at t q)) no_effect others) own)

  -- the change that was noted is the one between what was accepted before and with the newest
  module _ (t : State) (o : ℕ) (z : Accepted) (is_o : output_of z ≡ o)
      (input_before : feeding s o ≡ input_after m o xs) (lock_before : is_locked s o ≡ is_held o xs)
      (input_then : feeding t o ≡ input_after m o (z ∷ xs)) (lock_then : is_locked t o ≡ is_held o (z ∷ xs)) where
    noted_queue : (w : Bool) (k : Kept Change) (c : Change) → cond (not w) (put most_queued k c) k ≡ put_all most_queued k (cond w [] (c ∷ []))
    noted_queue true k c = refl
    noted_queue false k c = refl

    change_is : cond (eqb (feeding s o) (feeding t o) && same (is_locked s o) (is_locked t o)) [] (record { output = o; input = feeding t o } ∷ []) ≡ change_by m xs (Some z)
    change_is =
        (λ i. cond (eqb (input_before i) (input_then i) && same (lock_before i) (lock_then i)) [] (record { output = o; input = input_then i } ∷ []))
        ∙ ap (λ (k : ℕ). changed m k xs (z ∷ xs)) (sym is_o)

    noted_goes : (old : PortState) → PortGoes m xs s no_effect (Some z) no_effect false old (note_if (differs s t o) (record { output = o; input = feeding t o }) old)
    noted_goes old = record {
      queue =
          noted_queue (eqb (feeding s o) (feeding t o) && same (is_locked s o) (is_locked t o)) old.queue (record { output = o; input = feeding t o })
          ∙ ap (put_all most_queued old.queue) change_is;
      mask_flag = or_false old.mask_flag;
      login = refl;
    }

    pub noted_ports_go : (p : Port) → s.ports ≡ t.ports → PortsGo (noted s o t) p no_effect (Some z)
    noted_ports_go p same_ports =
        ports_go (noted s o t) p no_effect (Some z) all (all p)
      where
        all : (q : Port) → PortGoes m xs s no_effect (Some z) no_effect false (port_at s q) (port_at (noted s o t) q)
        all = all_each (λ q x. PortGoes m xs s no_effect (Some z) no_effect false (port_at s q) x) (note_if (differs s t o) (record { output = o; input = feeding t o })) t.ports
            (λ q. subst (λ (ps : PerPort PortState). PortGoes m xs s no_effect (Some z) no_effect false (port_at s q) (note_if (differs s t o) (record { output = o; input = feeding t o }) (at ps q))) same_ports (noted_goes (port_at s q)))

  -- all but the ports, where no mask bit and no user is set
  module _ (t : State) (p : Port) (x : Effects) (z : Option Accepted) where
    rest_goes : t.address ≡ s.address → t.access ≡ s.access → t.fabric.inputs ≡ s.fabric.inputs → t.fabric.outputs ≡ s.fabric.outputs → t.fabric.makeable ≡ s.fabric.makeable → t.masks ≡ s.masks → t.users ≡ s.users
        → x.mask ≡ None → t.keypad ≡ unwrap_or x.keypad s.keypad → t.ethernet ≡ unwrap_or x.ethernet s.ethernet → t.password ≡ unwrap_or x.password s.password
        → PortsGo t p x z → Goes m xs s t x (set_at (three no_effect) p x) (three false) None z
    rest_goes address access inputs outputs makeable masks users no_mask keypad ethernet password ports = record {
      address = address;
      access = access;
      inputs = inputs;
      outputs = outputs;
      makeable = makeable;
      masks = masks ∙ (λ i k g. with_bit (sym no_mask i) s.masks k g);
      keypad = keypad;
      ethernet = ethernet;
      password = password;
      users = users ∙ (λ i u. s.users u);
      ports = ports;
    }

  -- the ports stay as they are
  all_same : (t : State) (p : Port) (x : Effects) → x.mask ≡ None → x.reads_queue ≡ false → x.login ≡ None → ((q : Port) → port_at t q ≡ port_at s q) → PortsGo t p x None
  all_same t p x no_mask no_read no_login e = ports_go t p x None (λ q. by no_effect q refl refl) (by x p no_read no_login)
    where
      by : (y : Effects) (q : Port) → y.reads_queue ≡ false → y.login ≡ None → PortGoes m xs s x None y false (port_at s q) (port_at t q)
      by y q no_read no_login = record {
        queue = ap (λ (z : PortState). z.queue) (e q) ∙ (λ i. cond (sym no_read i) empty (port_at s q).queue);
        mask_flag = ap (λ (z : PortState). z.mask_flag) (e q) ∙ or_false (port_at s q).mask_flag ∙ (λ i. cond (sym no_read i) false ((port_at s q).mask_flag || altered_by (sym no_mask i) s.masks));
        login = ap (λ (z : PortState). z.login) (e q) ∙ (λ i. login_by (sym no_login i) s.users (port_at s q).login);
      }

  queue_read : (p : Port) → PortsGo (with_port p (cleared (port_at s p)) s) p (effects read_queue) None
  queue_read p =
      at_three (λ q b. PortGoes m xs s (effects read_queue) None (at (set_at (three no_effect) p (effects read_queue)) q) b (port_at s q) (port_at (with_port p (cleared (port_at s p)) s) q)) false
      (both_set (λ q y x. PortGoes m xs s (effects read_queue) None y false (port_at s q) x) (three no_effect) s.ports p (effects read_queue) (cleared (port_at s p))
      (at_three (λ q y. PortGoes m xs s (effects read_queue) None y false (port_at s q) (port_at s q)) no_effect (λ q. record { queue = refl; mask_flag = or_false (port_at s q).mask_flag; login = refl }))
      (record { queue = refl; mask_flag = refl; login = refl }))

  logged_in_goes : (p : Port) (n w : List ℕ) → PortsGo (with_port p (with_login (user_with s.users n w) (port_at s p)) s) p (effects (log_in n w)) None
  logged_in_goes p n w =
      at_three (λ q b. PortGoes m xs s (effects (log_in n w)) None (at (set_at (three no_effect) p (effects (log_in n w))) q) b (port_at s q) (port_at (with_port p (with_login (user_with s.users n w) (port_at s p)) s) q)) false
      (both_set (λ q y x. PortGoes m xs s (effects (log_in n w)) None y false (port_at s q) x) (three no_effect) s.ports p (effects (log_in n w)) (with_login (user_with s.users n w) (port_at s p))
      (at_three (λ q y. PortGoes m xs s (effects (log_in n w)) None y false (port_at s q) (port_at s q)) no_effect (λ q. record { queue = refl; mask_flag = or_false (port_at s q).mask_flag; login = refl }))
      (record { queue = refl; mask_flag = or_false (port_at s p).mask_flag; login = refl }))

  mask_goes : (p : Port) (g v o : ℕ) → Goes m xs s (do_mask s o g (eqb v 1)) (effects (set_mask g v o)) (set_at (three no_effect) p (effects (set_mask g v o))) (three false) None None
  mask_goes p g v o = record {
    address = refl;
    access = refl;
    inputs = refl;
    outputs = refl;
    makeable = refl;
    masks = λ i k j. with_bit (Some (o, g, eqb v 1)) s.masks k j;
    keypad = refl;
    ethernet = refl;
    password = refl;
    users = λ i u. s.users u;
    ports = ports_go (do_mask s o g (eqb v 1)) p (effects (set_mask g v o)) None all (by p);
  }
    where
      all : (q : Port) → PortGoes m xs s (effects (set_mask g v o)) None no_effect false (port_at s q) (port_at (do_mask s o g (eqb v 1)) q)
      all = all_each (λ q x. PortGoes m xs s (effects (set_mask g v o)) None no_effect false (port_at s q) x) (flag_if (not (same (eqb v 1) (s.masks o g)))) s.ports (λ q. record { queue = refl; mask_flag = refl; login = refl })

      by : (q : Port) → PortGoes m xs s (effects (set_mask g v o)) None (effects (set_mask g v o)) false (port_at s q) (port_at (do_mask s o g (eqb v 1)) q)
      by = all_each (λ q x. PortGoes m xs s (effects (set_mask g v o)) None (effects (set_mask g v o)) false (port_at s q) x) (flag_if (not (same (eqb v 1) (s.masks o g)))) s.ports (λ q. record { queue = refl; mask_flag = refl; login = refl })

  -- an accepted setting, lock or unlock, of an output that t has switched and whose change is still to be noted
  module _ (t : State) (o : ℕ) (z : Accepted) (is_o : output_of z ≡ o)
      (before : (k : ℕ) → feeding s k ≡ input_after m k xs) (locks_before : (k : ℕ) → is_locked s k ≡ is_held k xs)
      (then : (k : ℕ) → feeding t k ≡ input_after m k (z ∷ xs)) (locks_then : (k : ℕ) → is_locked t k ≡ is_held k (z ∷ xs)) where
    pub switched_goes : (p : Port) → t.address ≡ s.address → t.access ≡ s.access → t.fabric.inputs ≡ s.fabric.inputs → t.fabric.outputs ≡ s.fabric.outputs → t.fabric.makeable ≡ s.fabric.makeable
        → t.masks ≡ s.masks → t.users ≡ s.users → t.keypad ≡ s.keypad → t.ethernet ≡ s.ethernet → t.password ≡ s.password → s.ports ≡ t.ports
        → Goes m xs s (noted s o t) no_effect (set_at (three no_effect) p no_effect) (three false) None (Some z)
    switched_goes p address access inputs outputs makeable masks users keypad ethernet password ports =
        rest_goes (noted s o t) p no_effect (Some z) address access inputs outputs makeable masks users refl keypad ethernet password
        (noted_ports_go t o z is_o (before o) (locks_before o) (then o) (locks_then o) p ports)

  -- an accepted command, where feeding inputs and locks are, before it and after it, as the history says
  module _ (p : Port) (before : (k : ℕ) → feeding s k ≡ input_after m k xs) (locks_before : (k : ℕ) → is_locked s k ≡ is_held k xs) where
    pub command_goes : (c : Command) → ((k : ℕ) → feeding (effect s p c) k ≡ input_after m k (with_accepted (switched_by (asked c)) xs)) → ((k : ℕ) → is_locked (effect s p c) k ≡ is_held k (with_accepted (switched_by (asked c)) xs))
        → Goes m xs s (effect s p c) (effects c) (set_at (three no_effect) p (effects c)) (three false) None (switched_by (asked c))
    command_goes ask_flags f l = rest_goes s p no_effect None refl refl refl refl refl refl refl refl refl refl refl (all_same s p no_effect refl refl refl (λ q. refl))
    command_goes ask_version f l = rest_goes s p no_effect None refl refl refl refl refl refl refl refl refl refl refl (all_same s p no_effect refl refl refl (λ q. refl))
    command_goes lock_keypad f l = rest_goes (effect s p lock_keypad) p (effects lock_keypad) None refl refl refl refl refl refl refl refl refl refl refl (all_same (effect s p lock_keypad) p (effects lock_keypad) refl refl refl (λ q. refl))
    command_goes show_keypad f l = rest_goes s p no_effect None refl refl refl refl refl refl refl refl refl refl refl (all_same s p no_effect refl refl refl (λ q. refl))
    command_goes unlock_keypad f l = rest_goes (effect s p unlock_keypad) p (effects unlock_keypad) None refl refl refl refl refl refl refl refl refl refl refl (all_same (effect s p unlock_keypad) p (effects unlock_keypad) refl refl refl (λ q. refl))
    command_goes read_queue f l = rest_goes (effect s p read_queue) p (effects read_queue) None refl refl refl refl refl refl refl refl refl refl refl (queue_read p)
    command_goes lock_ethernet f l = rest_goes (effect s p lock_ethernet) p (effects lock_ethernet) None refl refl refl refl refl refl refl refl refl refl refl (all_same (effect s p lock_ethernet) p (effects lock_ethernet) refl refl refl (λ q. refl))
    command_goes ask_login f l = rest_goes s p no_effect None refl refl refl refl refl refl refl refl refl refl refl (all_same s p no_effect refl refl refl (λ q. refl))
    command_goes (lock_output o i) f l = switched_goes (with_lock o true (with_fabric (routed s.fabric o i) s)) o (was_locked o i) refl before locks_before f l p refl refl refl refl refl refl refl refl refl refl refl
    command_goes (set_output o i) f l = switched_goes (with_fabric (routed s.fabric o i) s) o (was_set o i) refl before locks_before f l p refl refl refl refl refl refl refl refl refl refl refl
    command_goes (unlock_output o i) f l = switched_goes (with_lock o false s) o (was_unlocked o i) refl before locks_before f l p refl refl refl refl refl refl refl refl refl refl refl
    command_goes (ask_input o) f l = rest_goes s p no_effect None refl refl refl refl refl refl refl refl refl refl refl (all_same s p no_effect refl refl refl (λ q. refl))
    command_goes (ask_status o) f l = rest_goes s p no_effect None refl refl refl refl refl refl refl refl refl refl refl (all_same s p no_effect refl refl refl (λ q. refl))
    command_goes (unlock_ethernet w) f l = rest_goes (effect s p (unlock_ethernet w)) p (effects (unlock_ethernet w)) None refl refl refl refl refl refl refl refl refl refl refl (all_same (effect s p (unlock_ethernet w)) p (effects (unlock_ethernet w)) refl refl refl (λ q. refl))
    command_goes (set_password w) f l = rest_goes (effect s p (set_password w)) p (effects (set_password w)) None refl refl refl refl refl refl refl refl refl refl refl (all_same (effect s p (set_password w)) p (effects (set_password w)) refl refl refl (λ q. refl))
    command_goes (set_mask g v o) f l = mask_goes p g v o
    command_goes (log_in n w) f l = rest_goes (effect s p (log_in n w)) p (effects (log_in n w)) None refl refl refl refl refl refl refl refl refl refl refl (logged_in_goes p n w)

  -- the calls that are no packets
  pub hung_up_goes : (q : Port) → Goes m xs s (with_port q (with_receiver idle (with_login None (port_at s q))) s) no_effect (three no_effect) (set_at (three false) q true) None None
  hung_up_goes q = record {
    address = refl;
    access = refl;
    inputs = refl;
    outputs = refl;
    makeable = refl;
    masks = λ i k g. s.masks k g;
    keypad = refl;
    ethernet = refl;
    password = refl;
    users = λ i u. s.users u;
    ports = at_three (λ r y. PortGoes m xs s no_effect None y (at (set_at (three false) q true) r) (port_at s r) (port_at (with_port q (with_receiver idle (with_login None (port_at s q))) s) r)) no_effect
        (both_set (λ r b x. PortGoes m xs s no_effect None no_effect b (port_at s r) x) (three false) s.ports q true (with_receiver idle (with_login None (port_at s q)))
        (at_three (λ r b. PortGoes m xs s no_effect None no_effect b (port_at s r) (port_at s r)) false (λ r. same_port (port_at s r)))
        (record { queue = refl; mask_flag = or_false (port_at s q).mask_flag; login = refl }));
  }

  pub entered_goes : (u : ℕ) (x : User) → Goes m xs s (with_user u x s) no_effect (three no_effect) (three false) (Some (u, x)) None
  entered_goes u x = let g = goes_nowhere in record {
    address = refl;
    access = refl;
    inputs = refl;
    outputs = refl;
    makeable = refl;
    masks = g.masks;
    keypad = refl;
    ethernet = refl;
    password = refl;
    users = λ i k. with_entry (Some (u, x)) s.users k;
    ports = g.ports;
  }

-- ---- all that stands

-- where the receivers are those of the history, too, the state is what stands
pub stands_whole : (a : ℕ) (on : Bool) (m : Meaning) (s : State) (h : List Event) → Stands a on m s h → ((q : Port) → (port_at s q).receiver ≡ receiver_after q h)
    → ((o : ℕ) → feeding s o ≡ input_after m o (accepted_in h)) → ((o : ℕ) → is_locked s o ≡ is_held o (accepted_in h)) → s ≡ standing a on m h
stands_whole a on m s h v receivers inputs locks = λ i. record {
  address = v.address i;
  access = v.access i;
  fabric = record { inputs = v.inputs i; outputs = v.outputs i; feeding = λ o. inputs o i; makeable = v.makeable i };
  locks = λ o. locks o i;
  masks = v.masks i;
  keypad = v.keypad i;
  ethernet = v.ethernet i;
  password = v.password i;
  users = v.users i;
  ports = record { one = port One i; two = port Two i; three = port Three i };
}
  where
    port : (q : Port) → port_at s q ≡ standing_port m h q
    port q = λ i. record { receiver = receivers q i; queue = (v.ports q).queue i; mask_flag = (v.ports q).mask_flag i; login = (v.ports q).login i }
