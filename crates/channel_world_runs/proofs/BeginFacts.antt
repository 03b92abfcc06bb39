-- How calls begin: of what stands in the table as one call at a time sees it.
use Rattle.std.specs.Prelude.{◌≡◌}
use Rattle.channel_world_runs.proofs.Words.{Option, None, refl, sym, ap, subst, ◌∙◌, option_map, option_map_or, ChannelAsk, giving_up_asked, drop_asked, at, without_name, kin, plan_of, Call, Handle, HandleId, OpId, Operation, Waiter, Op, Stream, Plan, Wanted, BeginsByName, Starts, asks, handed_over_by, handle_named, leave_handle_of, mint_asked, names_planned, new_from, new_message, returns, held_of, key_of, names_of, with_lent, Begun, NameTable, HandleEntry, OperationEntry, OnReturn}
use Rattle.channel_world_model.specs.declared.plan.Kinship.{Kinship}
use Rattle.channel_world_runs.proofs.RefusalLemmas.{handle_there, operation_at}

module _ {T : Type 0} (r : NameTable T) where
  pub handle_is : (handle : HandleId) (o : Option HandleEntry) → o ≡ at handle.0 r.handles
      → option_map (λ (h : HandleEntry). h.handle) o ≡ at handle.0 (names_of r).handles
  handle_is handle o e = ap (option_map (λ (h : HandleEntry). h.handle)) e ∙ handle_there r handle.0

  pub operation_is : (op : OpId) (o : Option (OperationEntry T)) → o ≡ at op.0 r.operations
      → option_map (λ (x : OperationEntry T). x.operation) o ≡ at op.0 (names_of r).operations
  operation_is op o e = ap (option_map (λ (x : OperationEntry T). x.operation)) e ∙ sym (operation_at r op.0)

  -- an operation is given up
  pub gives_up : (op : OpId) (o : Option (OperationEntry T)) → o ≡ at op.0 r.operations → (b : Begun T) (new : NameTable T)
      → Starts (giving_up_asked (option_map_or (λ (x : OperationEntry T). key_of x.poll_state) o None) (option_map (λ (x : OperationEntry T). x.operation) o))
      (leave_handle_of o) (handed_over_by o (record r { operations = without_name op.0 r.operations })) b new → BeginsByName r (Call.GiveUp op) b new
  gives_up op o e b new s = record {
    ask = s.0 ∙ (ap (λ (x : Option (OperationEntry T)). giving_up_asked (option_map_or (λ (y : OperationEntry T). key_of y.poll_state) x None)
        (option_map (λ (y : OperationEntry T). y.operation) o)) e
        ∙ ap (λ (x : Option (Operation T)). giving_up_asked (held_of r (Op op)) x) (operation_is op o e));
    on_return = s.1 ∙ ap leave_handle_of e;
    names = s.2 ∙ ap (λ (x : Option (OperationEntry T)). handed_over_by x (record r { operations = without_name op.0 r.operations })) e;
  }

  -- a handle is dropped
  pub drops : (handle : HandleId) (o : Option HandleEntry) → o ≡ at handle.0 r.handles → (a : ChannelAsk T Waiter) (new : NameTable T)
      → a ≡ drop_asked (option_map_or (λ (h : HandleEntry). key_of h.poll_state) o None) (option_map (λ (h : HandleEntry). h.handle) o)
      → new ≡ record r { handles = without_name handle.0 r.handles }
      → BeginsByName r (Call.Drop handle) (record { ask = a; on_return = OnReturn.Nothing }) new
  drops handle o e a new is names = record {
    ask = is ∙ (ap (λ (x : Option HandleEntry). drop_asked (option_map_or (λ (h : HandleEntry). key_of h.poll_state) x None)
        (option_map (λ (h : HandleEntry). h.handle) o)) e
        ∙ ap (λ (x : Option Handle). drop_asked (held_of r (Stream handle)) x) (handle_is handle o e));
    on_return = refl;
    names = names;
  }

  -- what a call asks that makes a handle from another
  abbrev MintsSo : ChannelAsk T Waiter → Plan → Type 0
  MintsSo a (Plan.Mints wanted from new to) = a ≡ mint_asked to (at from.0 (names_of r).handles)
  MintsSo a p = Unit {0}

  mints_so : (c : Call T) → MintsSo (asks r c) (plan_of c)
  mints_so (Call.TryClone handle new) = refl
  mints_so (Call.Downgrade handle new) = refl
  mints_so (Call.Upgrade weak new) = refl
  mints_so c = tt

  pub mints : (c : Call T) (wanted : Wanted) (from new : HandleId) (to : Kinship) → plan_of c ≡ Plan.Mints wanted from new to → (b : Begun T) (after : NameTable T)
      → Starts (mint_asked to (at from.0 (names_of r).handles)) (new_from from new (kin to) (at from.0 (names_of r).handles)) (with_lent from (handle_named new r)) b after
      → BeginsByName r c b after
  mints c wanted from new to is b after s = record {
    ask = s.0 ∙ sym (subst (λ (p : Plan). MintsSo (asks r c) p) is (mints_so c));
    on_return = s.1 ∙ sym (ap (λ (p : Plan). returns r (new_message c) p) is);
    names = s.2 ∙ sym (ap (λ (p : Plan). names_planned p r) is);
  }
