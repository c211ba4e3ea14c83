-- Facts side by side, as the clauses of a contract by their names: a law that says them at once answers a goal over them. Assumes nothing.

pub answer_table : {A B : Type 0} → A × B → record { answer : A; table : B }
answer_table h = record { answer = h.0; table = h.1 }

pub answer_tables : {A B : Type 0} → A × B → record { answer : A; tables : B }
answer_tables h = record { answer = h.0; tables = h.1 }

pub answer_list : {A B : Type 0} → A × B → record { answer : A; list : B }
answer_list h = record { answer = h.0; list = h.1 }

pub is_table_after : {A B : Type 0} → A × B → record { is : A; table_after : B }
is_table_after h = record { is = h.0; table_after = h.1 }

pub is_list_after : {A B : Type 0} → A × B → record { is : A; list_after : B }
is_list_after h = record { is = h.0; list_after = h.1 }

pub number_list : {A B : Type 0} → A × B → record { number : A; list : B }
number_list h = record { number = h.0; list = h.1 }

pub answer_lists : {A B C D : Type 0} → A × (B × (C × D)) → record { answer : A; tags : B; firsts : C; seconds : D }
answer_lists h = record { answer = h.0; tags = h.1.0; firsts = h.1.1.0; seconds = h.1.1.1 }
