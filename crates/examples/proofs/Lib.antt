mod TasksOf
